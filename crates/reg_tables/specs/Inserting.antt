-- What a statement leaves that adds a row.
use Rattle.std.specs.Prelude.{◌≡◌, ◌≢◌, ℕ, ◌∷◌}
use Rattle.std.specs.List.{AllByRecursion}
use Rattle.std.specs.List.Sorted.{IsPermutation}
use Rattle.sqlite.specs.declared.types.Value.{Value}
use Rattle.sqlite.specs.Order.{Row}
use Rattle.sqlite.specs.Effect.{Database, IsDatabase}
use Rattle.sqlite.specs.Schema.{Schema}
use Rattle.sqlite.specs.Table.{Table}
use Rattle.sqlite_rules.specs.Edit.{IsNoIndex}
use Rattle.reg_tables.specs.Schema.{office_schema}

-- the table has one row more, with a rowid of its own, and each other table is as it was
pub record AddedRow (t : ℕ) (body : Row) (old new : Database) : Type 0 where
  pub schema : new.schema ≡ old.schema
  pub sound : IsDatabase new
  pub id : Value
  pub rows : IsPermutation ((id ∷ body) ∷ old.trees t) (new.trees t)
  pub others : (u : ℕ) → u ≢ t → IsNoIndex office_schema u → new.trees u ≡ old.trees u

-- so it is in a store of this schema, whatever tables it has
pub record AddedTo (tables : Schema) (t : ℕ) (body : Row) (old new : Database) : Type 0 where
  pub schema : new.schema ≡ old.schema
  pub sound : IsDatabase new
  pub id : Value
  pub rows : IsPermutation ((id ∷ body) ∷ old.trees t) (new.trees t)
  pub others : (u : ℕ) → u ≢ t → IsNoIndex tables u → new.trees u ≡ old.trees u
  pub beside : AllByRecursion (λ (u : Table). u.tree ≢ t → new.trees u.tree ≡ old.trees u.tree)
      tables.tables
