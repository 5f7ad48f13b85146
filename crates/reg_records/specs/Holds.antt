-- Marks of held entries as rows of the table `holds`.
use Rattle.std.specs.Prelude.{Bool, ◌&&◌, [], ◌∷◌, Option, Some}
use Rattle.sqlite.specs.Order.{Row, column}
use Rattle.sqlite.specs.declared.types.Value.TheVariants.{Text}
use Rattle.reg_core.specs.Names.{is_name}
use Rattle.reg_records.specs.Columns.{formed_in, given, is_number, number_in, whole_value}
use Rattle.reg_records.specs.declared.holds.Hold.{Hold}

-- the columns that are selected: registry, value
abbrev pub hold_columns : Row → Row
hold_columns row = column row 0 ∷ column row 1 ∷ []

-- the mark that a row holds, where each column has its form
abbrev pub hold_in : Row → Option Hold
hold_in row =
    given (formed_in is_name (column row 0)) (λ registry.
    given (number_in is_number (column row 1)) (λ value.
    Some (record { registry = registry; value = value })))

-- the row that is written for it
abbrev pub hold_values : Hold → Row
hold_values hold = Text hold.registry ∷ whole_value hold.value ∷ []

-- its registry has a name, and its value 32 bits
abbrev pub is_hold : Hold → Bool
is_hold hold = is_name hold.registry && is_number hold.value
