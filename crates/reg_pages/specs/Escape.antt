-- What stands for a text on a page (HTML Living Standard, 13.1.4 and 13.5): text in which no byte is
-- markup.
use Rattle.std.specs.Prelude.{◌≡◌, ℕ, Bool, true, not, ◌||◌, ◌==◌, List, [], ◌∷◌, ◌++◌, Option, Some, None, option_map, unwrap_or, codes, if◌then◌else◌, IsUtf8}
use Rattle.std.specs.List.{flat_map, list_all}
use Rattle.std.specs.Str.{bytes_eq}

-- ---- Written

-- the reference that stands for a byte which may not stand for itself
abbrev pub reference : ℕ → Option (List ℕ)
reference b =
    if b == 38 then Some (codes "&amp;")
    else if b == 60 then Some (codes "&lt;")
    else if b == 62 then Some (codes "&gt;")
    else if b == 34 then Some (codes "&quot;")
    else if b == 39 then Some (codes "&#39;")
    else None

abbrev pub escaped_byte : ℕ → List ℕ
escaped_byte b = unwrap_or (reference b) (b ∷ [])

-- what stands for a text on a page
abbrev pub escaped : List ℕ → List ℕ
escaped text = flat_map escaped_byte text

-- ---- Read

-- less than, greater than, the quotation mark and the apostrophe
abbrev pub is_markup : ℕ → Bool
is_markup b = b == 60 || b == 62 || b == 34 || b == 39

-- the byte that a reference stands for, by what it has between its ampersand and its semicolon
abbrev pub referred : List ℕ → Option ℕ
referred name =
    if bytes_eq name (codes "amp") then Some 38
    else if bytes_eq name (codes "lt") then Some 60
    else if bytes_eq name (codes "gt") then Some 62
    else if bytes_eq name (codes "quot") then Some 34
    else if bytes_eq name (codes "#39") then Some 39
    else None

abbrev pub followed : ℕ → Option (List ℕ) → Option (List ℕ)
followed b rest = option_map (λ text. b ∷ text) rest

-- a byte that was referred to, and a text
abbrev pub followed_if : Option ℕ → Option (List ℕ) → Option (List ℕ)
followed_if None rest = None
followed_if (Some b) rest = followed b rest

-- The text that these bytes stand for, where a reference was begun whose name so far this is, or none
-- was: none where a byte is markup, or where an ampersand begins no reference of the five.
abbrev pub unescaped_in : Option (List ℕ) → List ℕ → Option (List ℕ)
unescaped_in None [] = Some []
unescaped_in (Some name) [] = None
unescaped_in None (b ∷ more) =
    if b == 38 then unescaped_in (Some []) more
    else if is_markup b then None
    else followed b (unescaped_in None more)
unescaped_in (Some name) (b ∷ more) =
    if b == 59 then followed_if (referred name) (unescaped_in None more)
    else unescaped_in (Some (name ++ b ∷ [])) more

-- the text that bytes of a page stand for; none where one of them is markup, or an ampersand begins
-- no reference of the five
abbrev pub unescaped : List ℕ → Option (List ℕ)
unescaped bytes = unescaped_in None bytes

-- ---- The law

-- What stands for a text has no byte of markup, and no ampersand but that of a reference of the five,
-- by which it reads back as the text. What stands for UTF-8 is UTF-8.
pub record IsInert (text : List ℕ) : Type 0 where
  pub no_markup : list_all (λ b. not (is_markup b)) (escaped text) ≡ true
  pub reads_back : unescaped (escaped text) ≡ Some text
  pub utf8 : IsUtf8 text → IsUtf8 (escaped text)

abbrev pub TextsAreInert : Type 0
TextsAreInert = (text : List ℕ) → IsInert text
