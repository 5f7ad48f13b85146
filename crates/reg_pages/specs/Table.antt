-- Tables on a page.
use Rattle.std.specs.Prelude.{ℕ, List, [], ◌∷◌, ◌++◌, map, codes}
use Rattle.reg_pages.specs.Markup.{Markup, text, element, beside, all_of, markup_then}
use Rattle.reg_pages.specs.Document.{attribute, link, page_end, plain}
use Rattle.reg_pages.specs.Escape.{escaped}

abbrev pub column : List ℕ → Markup
column name =
    element (codes "th") (attribute (codes "scope") (codes "col") ∷ []) (text name)

-- a table by its class, which the style sheet knows, its caption, the heads of its columns, and its rows
abbrev pub table : List ℕ → List ℕ → List (List ℕ) → Markup → Markup
table class caption columns rows =
    element (codes "table") (attribute (codes "class") class ∷ [])
    (all_of
    (plain (codes "caption") (text caption)
    ∷ plain (codes "thead") (plain (codes "tr") (all_of (map column columns)))
    ∷ plain (codes "tbody") rows
    ∷ []))

-- the cell of a row that heads it
abbrev pub head_of : Markup → Markup
head_of inside = element (codes "th") (attribute (codes "scope") (codes "row") ∷ []) inside

-- the same, as a link to what is found on the page by a name
abbrev pub head_cell : List ℕ → List ℕ → Markup
head_cell name words = head_of (link (codes "#" ++ name) words)

abbrev pub cell : List ℕ → Markup
cell words = plain (codes "td") (text words)

-- a row on a line of its own: by what it is found, and its cells
abbrev pub row_of : List ℕ → Markup → Markup
row_of name cells =
    beside (element (codes "tr") (attribute (codes "id") name ∷ []) cells) (text (codes "\n"))

-- a row that heads those below it, up to the next such row: by its words, which it is found by too, and
-- by how many columns there are
abbrev pub group : List ℕ → List ℕ → Markup
group words columns =
    row_of words
    (element (codes "th")
    (attribute (codes "scope") (codes "col") ∷ attribute (codes "colspan") columns ∷ [])
    (link (codes "#" ++ words) words))

-- ---- The same in pieces

-- a table up to its rows, and then the rest
abbrev pub table_start : List ℕ → List ℕ → List (List ℕ) → List ℕ → List ℕ
table_start class caption columns rest =
    codes "<table class=\""
    ++ (escaped class
    ++ (codes "\"><caption>"
    ++ (escaped caption
    ++ (codes "</caption><thead><tr>"
    ++ markup_then (all_of (map column columns)) (codes "</tr></thead><tbody>" ++ rest)))))

-- what stands on a page below the rows of its last table
abbrev pub below_rows : List ℕ
below_rows = codes "</tbody></table>" ++ page_end
