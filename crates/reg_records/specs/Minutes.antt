-- Minutes of the IESG, by which values are renewed again, as rows of the table `minutes`.
use Rattle.std.specs.Prelude.{Bool, ◌&&◌, [], ◌∷◌, Option, Some}
use Rattle.sqlite.specs.Order.{Row, column}
use Rattle.sqlite.specs.declared.types.Value.TheVariants.{Text}
use Rattle.reg_ranges.specs.Texts.{is_text}
use Rattle.reg_core.specs.Names.{is_name}
use Rattle.reg_records.specs.Columns.{formed_in, given}
use Rattle.reg_records.specs.declared.minutes.Minute.{Minute}

-- the columns that are selected: account, reference, minute
abbrev pub minute_columns : Row → Row
minute_columns row = column row 0 ∷ column row 1 ∷ column row 2 ∷ []

-- the minute that a row holds, where each column has its form
abbrev pub minute_in : Row → Option Minute
minute_in row =
    given (formed_in is_name (column row 0)) (λ account.
    given (formed_in is_name (column row 1)) (λ reference.
    given (formed_in is_text (column row 2)) (λ minute.
    Some (record { account = account; reference = reference; minute = minute }))))

-- the row that is written for it
abbrev pub minute_values : Minute → Row
minute_values row = Text row.account ∷ Text row.reference ∷ Text row.minute ∷ []

-- each of its names is one, and the minute is a printable text
abbrev pub is_minute : Minute → Bool
is_minute row = is_name row.account && is_name row.reference && is_text row.minute
