-- The frame of a page: what stands above and below all that it shows.
use Rattle.std.specs.Prelude.{ℕ, List, [], ◌∷◌, ◌++◌, codes}
use Rattle.reg_pages.specs.Markup.{Attribute, Markup, text, element, void, all_of, markup_then}
use Rattle.reg_pages.specs.Escape.{escaped}

abbrev pub attribute : List ℕ → List ℕ → Attribute
attribute name value = record { name = name; value = value }

-- an element without attributes
abbrev pub plain : List ℕ → Markup → Markup
plain tag inside = element tag [] inside

abbrev pub link : List ℕ → List ℕ → Markup
link target words = element (codes "a") (attribute (codes "href") target ∷ []) (text words)

-- What the head of each page has, by the places of the style sheet and of the Atom feed, which programs
-- for feeds find there (RFC 4287), and by the title.
abbrev pub head_parts : List ℕ → List ℕ → List ℕ → Markup
head_parts style feed title =
    all_of
    (void (codes "meta") (attribute (codes "charset") (codes "utf-8") ∷ [])
    ∷ void (codes "meta")
    (attribute (codes "name") (codes "viewport")
    ∷ attribute (codes "content") (codes "width=device-width, initial-scale=1")
    ∷ [])
    ∷ plain (codes "title") (text title)
    ∷ void (codes "link")
    (attribute (codes "rel") (codes "stylesheet") ∷ attribute (codes "href") style ∷ [])
    ∷ void (codes "link")
    (attribute (codes "rel") (codes "alternate")
    ∷ attribute (codes "type") (codes "application/atom+xml")
    ∷ attribute (codes "href") feed ∷ [])
    ∷ [])

-- a page, by the places of the style sheet and of the feed, its title, which is its heading too, and
-- what is below
abbrev pub page : List ℕ → List ℕ → List ℕ → Markup → Markup
page style feed title below =
    element (codes "html") (attribute (codes "lang") (codes "en") ∷ [])
    (all_of
    (plain (codes "head") (head_parts style feed title)
    ∷ plain (codes "body")
    (plain (codes "main") (all_of (plain (codes "h1") (text title) ∷ below ∷ [])))
    ∷ []))

-- the bytes of a page (HTML Living Standard, 13.1.1)
abbrev pub document : Markup → List ℕ
document html = codes "<!DOCTYPE html>\n" ++ markup_then html (codes "\n")

-- ---- The same in pieces

-- a page up to its heading, and then the rest
abbrev pub page_start : List ℕ → List ℕ → List ℕ → List ℕ → List ℕ
page_start style feed title rest =
    codes "<!DOCTYPE html>\n<html lang=\"en\"><head>"
    ++ markup_then (head_parts style feed title)
    (codes "</head><body><main><h1>" ++ (escaped title ++ (codes "</h1>" ++ rest)))

-- what ends a page
abbrev pub page_end : List ℕ
page_end = codes "</main></body></html>\n"
