-- What notes refer to, and where that is.
use Rattle.std.specs.Prelude.{ℕ, Bool, ◌||◌, ◌==◌, not, nat_eq, List, [], ◌∷◌, ◌++◌, drop, take, position, codes, Option, Some, None, if◌then◌else◌}
use Rattle.std.specs.Char.{is_ascii_digit}
use Rattle.std.specs.Fmt.{decimal}
use Rattle.std.specs.List.{starts_with}
use Rattle.std.specs.Str.{is_utf8}
use Rattle.reg_pages.specs.Document.{attribute, link}
use Rattle.reg_pages.specs.Markup.{Markup, nothing, text, element}
use Rattle.reg_ranges.specs.Numbers.{read_number}
use Rattle.reg_ranges.specs.Texts.{read_text}

abbrev pub is_space : ℕ → Bool
is_space b = b == 32

abbrev pub is_no_digit : ℕ → Bool
is_no_digit b = not (is_ascii_digit b)

-- the bytes before a place; all where there is none
abbrev pub until_place : Option ℕ → List ℕ → List ℕ
until_place None bytes = bytes
until_place (Some place) bytes = take place bytes

-- the bytes before the first that passes the test
abbrev pub until : (ℕ → Bool) → List ℕ → List ℕ
until test bytes = until_place (position test bytes) bytes

-- the number of the RFC by which a reference begins, as in `RFC 1234, section 5`
abbrev pub rfc_of : List ℕ → Option ℕ
rfc_of reference =
    if starts_with nat_eq reference (codes "RFC ")
    then read_number (until is_no_digit (drop 4 reference)) else None

-- the address by which a reference begins, up to the first space
abbrev pub address_of : List ℕ → Option (List ℕ)
address_of reference =
    if starts_with nat_eq reference (codes "https://") || starts_with nat_eq reference (codes "http://")
    then read_text is_utf8 (until is_space reference) else None

-- ---- On a page

-- where an RFC is read
abbrev pub rfc_place : ℕ → List ℕ
rfc_place n = codes "https://www.rfc-editor.org/rfc/rfc" ++ decimal n

-- a reference, by the address by which it begins
abbrev pub by_address : Option (List ℕ) → List ℕ → Markup
by_address (Some address) reference = link address reference
by_address None reference = text reference

-- a reference, by the RFC by which it begins
abbrev pub by_rfc : Option ℕ → List ℕ → Markup
by_rfc (Some n) reference = link (rfc_place n) reference
by_rfc None reference = by_address (address_of reference) reference

-- a reference, which is a link where it begins with an RFC or an address
abbrev pub reference_markup : List ℕ → Markup
reference_markup reference = by_rfc (rfc_of reference) reference

-- ---- In a file for programs

-- a reference of IANA's form, by its type and what it refers to
abbrev pub xref : List ℕ → List ℕ → Markup
xref type target =
    element (codes "xref")
    (attribute (codes "type") type ∷ attribute (codes "data") target ∷ []) nothing

-- a reference of IANA's form, by the address by which it begins
abbrev pub xref_by_address : Option (List ℕ) → List ℕ → Markup
xref_by_address (Some address) reference = xref (codes "uri") address
xref_by_address None reference = xref (codes "text") reference

-- the same, by the RFC by which it begins
abbrev pub xref_by_rfc : Option ℕ → List ℕ → Markup
xref_by_rfc (Some n) reference = xref (codes "rfc") (codes "rfc" ++ decimal n)
xref_by_rfc None reference = xref_by_address (address_of reference) reference

-- nothing where there is no reference
abbrev pub xref_of : List ℕ → Markup
xref_of [] = nothing
xref_of (b ∷ more) = xref_by_rfc (rfc_of (b ∷ more)) (b ∷ more)
