-- Places that stand as the values of attributes.
use Rattle.std.proofs.Common.{◌≡◌, ℕ, true, false, List, ◌++◌, Result, Ok, Err, codes, refl, sym, ap, ◌∙◌}
use Rattle.std.specs.Prelude.{OnOk}
use Rattle.std.specs.Str.{bytes_eq}
use Rattle.reg_pages.specs.Escape.{escaped}
use Rattle.reg_pages.specs.Appended.{Appended}
use Rattle.reg_pages.specs.Document.{link}
use Rattle.reg_pages.specs.Markup.{markup_then}
use Rattle.reg_pages.proofs.Pieces.{escaped_both}
use Rattle.reg_site.specs.Changes.{Changed, place_of}
use Rattle.reg_site.specs.Index.{page_place}
use Rattle.reg_site.specs.Registry.{links}

-- the same bytes told in another way, where they were appended
pub if_appended : {T E : Type 0} (result : Result T E) (x y : List ℕ) {f g : List ℕ → List ℕ}
    → ((rest : List ℕ) → g rest ≡ f rest) → OnOk result (Appended x y f)
    → OnOk result (Appended x y g)
if_appended (Ok done) x y is h =
    record { all = λ rest. h.all rest ∙ ap (λ bytes. x ++ bytes) (sym (is rest)) }
if_appended (Err fault) x y is h = tt

-- the page of a registry as a place
pub page_place-then : (name rest : List ℕ)
    → escaped (page_place name) ++ rest
    ≡ codes "registries/" ++ (escaped name ++ (codes ".html" ++ rest))
page_place-then name rest =
    ap (λ bytes. codes "registries/" ++ bytes) (escaped_both name (codes ".html") rest)

-- the same of an entry there
pub entry_place-then : (name value rest : List ℕ)
    → escaped (codes "registries/" ++ (name ++ (codes ".html#v" ++ value))) ++ rest
    ≡ codes "registries/" ++ (escaped name ++ (codes ".html#v" ++ (escaped value ++ rest)))
entry_place-then name value rest =
    ap (λ bytes. codes "registries/" ++ bytes) (escaped_both name (codes ".html#v" ++ value) rest)

-- the links of a registry to its other files
pub links-then : (name rest : List ℕ)
    → markup_then (links name) rest
    ≡ codes "<p><a href=\"../index.html\">All registries</a> <a href=\""
    ++ (escaped name ++ (codes ".csv\">CSV</a> <a href=\""
    ++ (escaped name ++ (codes ".json\">JSON</a> <a href=\""
    ++ (escaped name ++ (codes ".xml\">XML</a></p>" ++ rest))))))
links-then name rest =
    rw (
      escaped_both name (codes ".csv"),
      escaped_both name (codes ".json"),
      escaped_both name (codes ".xml"),
    ) refl

-- a link to the page of a registry by its name
pub page_link-then : (name rest : List ℕ)
    → markup_then (link (page_place name) name) rest
    ≡ codes "<a href=\"registries/"
    ++ (escaped name ++ (codes ".html\">" ++ (escaped name ++ (codes "</a>" ++ rest))))
page_link-then name rest =
    ap (λ bytes. codes "<a href=\"" ++ bytes)
    (page_place-then name (codes "\">" ++ (escaped name ++ (codes "</a>" ++ rest))))

-- the place of a new register
pub registry_place : (c : Changed) → bytes_eq c.kind (codes "registry") ≡ true
    → (rest : List ℕ)
    → escaped (place_of c) ++ rest
    ≡ codes "registries/" ++ (escaped c.value ++ (codes ".html" ++ rest))
registry_place c is rest =
    ap (λ place. escaped place ++ rest)
    (let same : place_of c ≡ page_place c.value = rw is refl in same)
    ∙ page_place-then c.value rest

-- the place of an entry
pub entry_place : (c : Changed) → bytes_eq c.kind (codes "registry") ≡ false
    → bytes_eq c.kind (codes "block") ≡ false → bytes_eq c.kind (codes "prefix") ≡ false
    → (rest : List ℕ)
    → escaped (place_of c) ++ rest
    ≡ codes "registries/" ++ (escaped c.register ++ (codes ".html#v" ++ (escaped c.value ++ rest)))
entry_place c one two three rest =
    ap (λ place. escaped place ++ rest)
    (let is : place_of c ≡ codes "registries/" ++ (c.register ++ (codes ".html#v" ++ c.value)) =
    rw (one, two, three) refl in is)
    ∙ entry_place-then c.register c.value rest
