-- What a statement leaves that puts a row in the place of the one with its key.
use Rattle.std.specs.Prelude.{◌≡◌, ◌⊎◌, ℕ, true, false, List}
use Rattle.sqlite.specs.declared.types.Value.{Value}
use Rattle.sqlite.specs.Effect.{Database}
use Rattle.sqlite.specs.Order.{Row}
use Rattle.sqlite_rules.specs.Lists.{Has}
use Rattle.reg_tables.specs.Editing.{AltersRows, IsOffice, has_all}
use Rattle.reg_tables.specs.Inserting.{AddedRow}

-- no row has these values
abbrev pub HasNone : List Row → List (ℕ × Value) → Type 0
HasNone rows key = (row : Row) → Has rows row → has_all key row ≡ false

-- some row has them
abbrev pub HasOne : List Row → List (ℕ × Value) → Type 0
HasOne rows key = (row : Row) × Has rows row × (has_all key row ≡ true)

-- Where no row had the key, the table has one row more. Where one had it, that row is another, with
-- the rowid that it had. Each other row and each other table is as it was.
pub record PutRow (t : ℕ) (key : List (ℕ × Value)) (body : Row) (by : Row → Row)
    (old new : Database) : Type 0 where
  pub office : IsOffice new
  pub put : (HasNone (old.trees t) key × AddedRow t body old new)
      ⊎ (HasOne (old.trees t) key × AltersRows t (has_all key) by old new)
