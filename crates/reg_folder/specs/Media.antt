-- The media types of files (RFC 9110 section 8.3), by their endings as they stand.
use Rattle.std.specs.Prelude.{◌&&◌, ◌||◌, ◌==◌, ℕ, Bool, false, not, List, codes, nat_eq, if◌then◌else◌}
use Rattle.std.specs.List.{ends_with, fold}

-- whether a dot stands behind the last slash: with one byte more, and of a whole path
abbrev pub dotted_after : Bool → ℕ → Bool
dotted_after dotted b = not (b == 47) && (dotted || b == 46)

abbrev pub is_dotted : List ℕ → Bool
is_dotted path = fold dotted_after false path

abbrev pub ends_in : List ℕ → List ℕ → Bool
ends_in path ending = ends_with nat_eq path ending

-- the type of a file that is none for people
abbrev pub data_media_of : List ℕ → List ℕ
data_media_of path =
    (if ends_in path (codes ".json") then codes "application/json" else (
    if ends_in path (codes ".xml") then codes "application/xml" else (
    if ends_in path (codes ".atom") then codes "application/atom+xml" else (
    if ends_in path (codes ".yaml") then codes "application/yaml" else (
    if is_dotted path then codes "application/octet-stream"
    else codes "text/plain; charset=utf-8")))))

abbrev pub media_of : List ℕ → List ℕ
media_of path =
    (if ends_in path (codes ".html") then codes "text/html; charset=utf-8" else (
    if ends_in path (codes ".css") then codes "text/css; charset=utf-8" else (
    if ends_in path (codes ".js") then codes "text/javascript; charset=utf-8" else (
    if ends_in path (codes ".csv") then codes "text/csv; charset=utf-8" else (
    if ends_in path (codes ".txt") || ends_in path (codes ".md")
    then codes "text/plain; charset=utf-8" else (
    if ends_in path (codes ".svg") then codes "image/svg+xml" else (
    if ends_in path (codes ".png") then codes "image/png" else data_media_of path)))))))
