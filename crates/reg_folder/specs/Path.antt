-- The paths of the files of a folder, and the requests that ask for them.
use Rattle.std.specs.Prelude.{◌&&◌, ◌||◌, ◌==◌, ◌++◌, ℕ, Bool, not, List, [], length, drop, codes, nat_eq, Option, None, Some, option_map, Result, Ok, Err, if◌then◌else◌}
use Rattle.std.specs.Char.{is_ascii_alphanumeric}
use Rattle.std.specs.List.{list_all, slice_split, starts_with, ends_with}
use Rattle.std.specs.Str.{bytes_eq, is_utf8}
use Rattle.std.specs.String.{string_bytes}
use Rattle.reg_core.specs.declared.wire_refusal.WireRefusal.{WireRefusal}
use Rattle.reg_core.specs.declared.wire_refusal.WireRefusal.TheVariants.{Route, Method, Body}
use Rattle.reg_folder.specs.declared.wanted.Wanted.{Wanted}
use Rattle.reg_folder.specs.declared.wanted.Wanted.TheVariants.{Nothing, Refusal, File}

-- ---- Names of files

-- the letters and digits of ASCII, `.`, `_` and `-`
abbrev pub is_name_byte : ℕ → Bool
is_name_byte b = is_ascii_alphanumeric b || (b == 46 || (b == 95 || b == 45))

-- a name has one or more of these, and begins with no dot
abbrev pub is_name : List ℕ → Bool
is_name segment =
    not (length segment == 0)
    && (not (starts_with nat_eq segment (codes ".")) && list_all is_name_byte segment)

-- what stands before, between and behind the slashes
abbrev pub segments : List ℕ → List (List ℕ)
segments path = slice_split (λ b. b == 47) path

-- the path of a file below a folder: each segment is a name
abbrev pub is_path : List ℕ → Bool
is_path path = list_all is_name (segments path)

-- a path that is empty or ends in a slash means the index there
abbrev pub indexed : List ℕ → List ℕ
indexed rest =
    (if length rest == 0 || ends_with nat_eq rest (codes "/") then rest ++ codes "index.html" else rest)

-- ---- What a request asks of a site

-- nothing, a file at a path, or what is refused
abbrev pub SiteAim : Type 0
SiteAim = Option (Result (List ℕ) WireRefusal)

-- the file that the rest of a path means, behind `/site/`
abbrev pub file_at : List ℕ → Result (List ℕ) WireRefusal
file_at rest = (if is_utf8 rest && is_path (indexed rest) then Ok (indexed rest) else Err Route)

-- by the method and the body, and by the rest of the path behind `/site/`
abbrev pub aim_behind : List ℕ → List ℕ → List ℕ → Result (List ℕ) WireRefusal
aim_behind method body rest =
    (if not (bytes_eq method (codes "GET")) then Err Method else (
    if not (length body == 0) then Err Body else file_at rest))

abbrev pub is_below : List ℕ → Bool
is_below path = starts_with nat_eq path (codes "/site/")

-- what stands behind `/site/` in a path that begins so
abbrev pub behind : List ℕ → Option (List ℕ)
behind path = (if is_below path then Some (drop 6 path) else None)

-- what is asked by this method, with this body, at this path
abbrev pub aim_at : List ℕ → List ℕ → List ℕ → SiteAim
aim_at method body path = option_map (aim_behind method body) (behind path)

-- the same as the code says it
abbrev pub aim_in : Wanted → SiteAim
aim_in Nothing = None
aim_in (Refusal why) = Some (Err why)
aim_in (File path) = Some (Ok (string_bytes path))
