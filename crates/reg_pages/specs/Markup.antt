-- A page as a tree of elements and texts (HTML Living Standard, 13.1), and its bytes.
use Rattle.std.specs.Prelude.{ℕ, List, [], ◌∷◌, ◌++◌, codes}
use Rattle.reg_pages.specs.Escape.{escaped}

-- an attribute: its name and its value
pub record Attribute : Type 0 where
  pub name : List ℕ
  pub value : List ℕ

-- a page as a tree of elements and texts; its bytes, and after them the rest
pub data Markup : Type 0 where
  nothing : Markup
  text : List ℕ → Markup
  -- an element by its tag, with what it has inside
  element : List ℕ → List Attribute → Markup → Markup
  -- an element that can have nothing inside, and has no closing tag
  void : List ℕ → List Attribute → Markup
  -- one after the other
  beside : Markup → Markup → Markup

abbrev pub all_of : List Markup → Markup
all_of [] = nothing
all_of (m ∷ more) = beside m (all_of more)

-- ---- Bytes

-- Each definition has the bytes of a piece, and after them the rest of the page.

abbrev pub attributes_then : List Attribute → List ℕ → List ℕ
attributes_then [] rest = rest
attributes_then (a ∷ more) rest =
    codes " "
    ++ (a.name
    ++ (codes "=\"" ++ (escaped a.value ++ (codes "\"" ++ attributes_then more rest))))

abbrev pub opening_then : List ℕ → List Attribute → List ℕ → List ℕ
opening_then tag attributes rest =
    codes "<" ++ (tag ++ attributes_then attributes (codes ">" ++ rest))

abbrev pub closing_then : List ℕ → List ℕ → List ℕ
closing_then tag rest = codes "</" ++ (tag ++ (codes ">" ++ rest))

abbrev pub markup_then : Markup → List ℕ → List ℕ
markup_then nothing rest = rest
markup_then (text t) rest = escaped t ++ rest
markup_then (element tag attributes inside) rest =
    opening_then tag attributes (markup_then inside (closing_then tag rest))
markup_then (void tag attributes) rest = opening_then tag attributes rest
markup_then (beside a b) rest = markup_then a (markup_then b rest)
