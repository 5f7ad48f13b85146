-- Prefixes as rows of the table `pool`.
use Rattle.std.specs.Prelude.{ℕ, Bool, [], ◌∷◌, Option}
use Rattle.sqlite.specs.Order.{Row, column}
use Rattle.reg_records.specs.Columns.{is_number, number_in, whole_value}

-- the column that is selected: prefix
abbrev pub prefix_columns : Row → Row
prefix_columns row = column row 0 ∷ []

-- the prefix that a row holds, which is any number of 32 bits
abbrev pub prefix_in : Row → Option ℕ
prefix_in row = number_in is_number (column row 0)

-- the row that is written for it
abbrev pub prefix_values : ℕ → Row
prefix_values prefix = whole_value prefix ∷ []

-- it has 32 bits
abbrev pub is_prefix : ℕ → Bool
is_prefix prefix = is_number prefix
