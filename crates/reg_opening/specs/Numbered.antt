-- Rows of a table with their rowids.
use Rattle.std.specs.Prelude.{◌≡◌, ℕ, ℤ, ◌+◌, List, [], ◌∷◌, ◌++◌, map, Option, Some, None, IsTrue, option_map}
use Rattle.std.specs.Ordering.{int_cmp}
use Rattle.sqlite.specs.Order.{Row, column}
use Rattle.sqlite.specs.Term.{Term, col}
use Rattle.sqlite_value.specs.declared.keys.Key.{Key}
use Rattle.reg_records.specs.Columns.{int_in}
use Rattle.reg_tables.specs.Selecting.{SelectsFrom, columns_of}
use Rattle.reg_statements.specs.Loading.{IsAscending}
use Rattle.reg_statements.specs.Parts.{TableDef}
use Rattle.reg_opening.specs.declared.numbered.Numbered.{Numbered}
use Rattle.reg_opening.specs.declared.numbered.Rise.{Rise}

-- the columns of a table, and its rowid behind them
abbrev pub numbered_columns : ℕ → List Term
numbered_columns n = columns_of n ++ col 1 0 ∷ []

-- the text is a query of all rows of the table, each with its rowid
pub record ShowsNumbered {T K X : Type 0} (d : TableDef T K X) (sql : List ℕ) : Type 0 where
  pub order : List (Term × Key)
  pub selects : SelectsFrom (d.slot + 1) sql d.table.tree [] (numbered_columns d.width) order

-- what a row reads as, with the whole number in the column behind
abbrev pub numbered_in : {T : Type 0} → (Row → Option T) → ℕ → Row → Option (Numbered T)
numbered_in read n row =
    option_map (λ value. record { value = value; rowid = int_in (column row n) }) (read row)

-- the last of some numbers
abbrev pub last_of : List ℤ → Option ℤ
last_of [] = None
last_of (n ∷ []) = Some n
last_of (n ∷ m ∷ more) = last_of (m ∷ more)

-- each row has a rowid, and that of the next is above it
abbrev pub IsRising : List (Option ℤ) → Type 0
IsRising rowids = (ids : List ℤ) × (rowids ≡ map Some ids) × IsAscending int_cmp ids

-- it holds of rows just where their rowids rise, and then it has the last of them
abbrev pub HasRisen : Rise → List (Option ℤ) → Type 0
HasRisen rise rowids =
    (IsTrue rise.holds → (ids : List ℤ) × (rowids ≡ map Some ids) × IsAscending int_cmp ids
    × (rise.last ≡ last_of ids))
    × (IsRising rowids → IsTrue rise.holds)
