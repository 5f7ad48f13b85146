-- Versions of the tables as rows of the table `office`.
use Rattle.std.specs.Prelude.{ℤ, Bool, true, [], ◌∷◌, Option}
use Rattle.sqlite.specs.Order.{Row, column}
use Rattle.sqlite.specs.declared.types.Value.TheVariants.{Int}
use Rattle.reg_records.specs.Columns.{int_in}

-- the column that is selected: version
abbrev pub version_columns : Row → Row
version_columns row = column row 0 ∷ []

-- the version that a row holds, which is any whole number
abbrev pub version_in : Row → Option ℤ
version_in row = int_in (column row 0)

-- the row that is written for it
abbrev pub version_values : ℤ → Row
version_values version = Int version ∷ []

-- each whole number is one
abbrev pub is_version : ℤ → Bool
is_version version = true
