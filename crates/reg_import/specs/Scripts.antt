-- What a register is as a script.
use Rattle.std.specs.Prelude.{◌≡◌, ℕ, ◌+◌, List, [], ◌∷◌, ◌++◌, Option, Some, None, Result, Ok, Err, if◌then◌else◌}
use Rattle.reg_ranges.specs.RowReading.{text_rows}
use Rattle.reg_import.specs.Columns.{is_header}
use Rattle.reg_import.specs.Lines.{Line, entry_lines, lines_text}
use Rattle.reg_import.specs.Rows.{row_in}
use Rattle.reg_import.specs.declared.entry.ListedEntry.{ListedEntry}
use Rattle.reg_import.specs.declared.fault.ImportFault.{ImportFault}
use Rattle.reg_import.specs.declared.fault.ImportFault.TheVariants.{Header, Row}
use Rattle.reg_import.specs.declared.fault.ImportRowFault.{ImportRowFault}
use Rattle.reg_import.specs.declared.import.Import.{Import}

infixl 10 ◌>>=◌
abbrev pub ◌>>=◌ : {A B : Type 0} → Result A ImportFault → (A → Result B ImportFault)
    → Result B ImportFault
(Ok x) >>= f = f x
(Err e) >>= f = Err e

-- the lines of a row that says an entry; none of one that says none
abbrev pub lines_if : Import → Option ListedEntry → List Line
lines_if by None = []
lines_if by (Some entry) = entry_lines by entry

-- what the row of a number says
abbrev pub numbered : {A : Type 0} → ℕ → Result A ImportRowFault → Result A ImportFault
numbered n (Ok x) = Ok x
numbered n (Err fault) = Err (Row n fault)

-- the lines of the rows from number n on, or the first fault
abbrev pub lines_from : Import → List (List ℕ) → ℕ → List (List (List ℕ))
    → Result (List Line) ImportFault
lines_from by header n [] = Ok []
lines_from by header n (row ∷ rows) = do
  entry ← numbered n (row_in by header row)
  lines ← lines_from by header (n + 1) rows
  Ok (lines_if by entry ++ lines)

-- the lines of a header and the rows below it, which count from 1
abbrev pub register_lines : Import → List (List (List ℕ)) → Result (List Line) ImportFault
register_lines by [] = Err Header
register_lines by (header ∷ rows) =
    if is_header header then lines_from by header 1 rows else Err Header

-- the text of all lines, or the first fault
abbrev pub text_if : Result (List Line) ImportFault → Result (List ℕ) ImportFault
text_if lines = lines >>= (λ all. Ok (lines_text all))

abbrev pub rows_script : Import → List (List ℕ) → ℕ → List (List (List ℕ))
    → Result (List ℕ) ImportFault
rows_script by header n rows = text_if (lines_from by header n rows)

abbrev pub records_script : Import → List (List (List ℕ)) → Result (List ℕ) ImportFault
records_script by records = text_if (register_lines by records)

-- the script of a register, whole; or its first fault
unfoldable pub script_of : Import → List ℕ → Result (List ℕ) ImportFault
script_of by text = records_script by (text_rows text)

-- the lines of the row of a number were appended
abbrev pub IsAppended : Import → ℕ → List (List ℕ) → List (List ℕ) → List ℕ → List ℕ → Type 0
IsAppended by n header row old new =
    (entry : Option ListedEntry) × (numbered n (row_in by header row) ≡ Ok entry)
    × (new ≡ old ++ lines_text (lines_if by entry))
