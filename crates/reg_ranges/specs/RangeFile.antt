-- What a range file says: a record `lo,hi,treatment,note`, and then one record for each range.
use Rattle.std.specs.Prelude.{◌≡◌, ℕ, ◌+◌, Bool, List, [], ◌∷◌, Option, Some, None, Result, Ok, Err, codes, if◌then◌else◌}
use Rattle.std.specs.Option.{ok_or}
use Rattle.std.specs.Cmp.Lexicographic.{pointwise}
use Rattle.std.specs.Str.{bytes_eq}
use Rattle.reg_ranges.specs.RowReading.{text_rows}
use Rattle.reg_ranges.specs.Texts.{is_text, read_text}
use Rattle.reg_ranges.specs.Numbers.{read_number}
use Rattle.reg_ranges.specs.Words.{read_treatment}
use Rattle.reg_ranges.specs.declared.range.Range.{Range}
use Rattle.reg_ranges.specs.declared.range_file.RowPart.TheVariants as part
use Rattle.reg_ranges.specs.declared.range_file.RowFault.{RowFault}
use Rattle.reg_ranges.specs.declared.range_file.RowFault.TheVariants as fault

infixl 10 ◌>>=◌
abbrev pub ◌>>=◌ : {A B : Type 0} → Result A RowFault → (A → Result B RowFault) → Result B RowFault
(Ok x) >>= f = f x
(Err e) >>= f = Err e

abbrev pub header : List (List ℕ)
header = codes "lo" ∷ codes "hi" ∷ codes "treatment" ∷ codes "note" ∷ []

abbrev pub is_header : List (List ℕ) → Bool
is_header fields = pointwise bytes_eq fields header

-- the note of row n, none where the field is empty
abbrev pub note_of : ℕ → List ℕ → Result (Option (List ℕ)) RowFault
note_of n [] = Ok None
note_of n (b ∷ rest) = do
  text ← ok_or (read_text is_text (b ∷ rest)) (fault.Row n part.Text)
  Ok (Some text)

-- the range of row n, or its first fault: its columns, then each from left to right
abbrev pub range_of : ℕ → List (List ℕ) → Result Range RowFault
range_of n (first ∷ last ∷ word ∷ remark ∷ []) = do
  lo ← ok_or (read_number first) (fault.Row n part.Number)
  hi ← ok_or (read_number last) (fault.Row n part.Number)
  treatment ← ok_or (read_treatment word) (fault.Row n part.Treatment)
  note ← note_of n remark
  Ok (record { lo = lo; hi = hi; treatment = treatment; note = note })
range_of n fields = Err (fault.Row n part.Columns)

-- the ranges of the rows from row n on, or the first fault
abbrev pub ranges_from : ℕ → List (List (List ℕ)) → Result (List Range) RowFault
ranges_from n [] = Ok []
ranges_from n (row ∷ rows) = do
  range ← range_of n row
  ranges ← ranges_from (n + 1) rows
  Ok (range ∷ ranges)

abbrev pub ranges_of : List (List (List ℕ)) → Result (List Range) RowFault
ranges_of [] = Err fault.Header
ranges_of (first ∷ rows) = (if is_header first then ranges_from 0 rows else Err fault.Header)

-- the ranges of a file
unfoldable pub file_ranges : List ℕ → Result (List Range) RowFault
file_ranges text = ranges_of (text_rows text)

-- the fault is the one that reading finds, unless memory ran out
abbrev pub IsFaultOf : {A : Type 0} → Result A RowFault → RowFault → Type 0
IsFaultOf read fault.Memory = Unit {0}
IsFaultOf read fault.Header = read ≡ Err fault.Header
IsFaultOf read (fault.Row n part) = read ≡ Err (fault.Row n part)
