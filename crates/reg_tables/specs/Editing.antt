-- What UPDATE and DELETE do to the rows of a table of an office.
use Rattle.std.specs.Prelude.{◌≡◌, ◌≢◌, ℕ, Bool, true, not, if◌then◌else◌, List, map, filter}
use Rattle.std.specs.List.{AllByRecursion, list_all, range_with_len}
use Rattle.std.specs.List.Sorted.{IsPermutation}
use Rattle.std.specs.declared.cmp.Ordering.TheVariants.{Equal}
use Rattle.sqlite.specs.declared.types.Value.{Value}
use Rattle.sqlite.specs.Effect.{Database, IsDatabase}
use Rattle.sqlite.specs.Order.{Row, column, value_cmp}
use Rattle.sqlite.specs.Term.{Term}
use Rattle.sqlite.specs.Tree.{Trees, rowid}
use Rattle.sqlite_trees.specs.Tree.{IsTable}
use Rattle.sqlite_trees.specs.View.{is_int}
use Rattle.sqlite_rules.specs.Edit.{IsNoIndex}
use Rattle.sqlite_rules.specs.Lists.{Has}
use Rattle.reg_tables.specs.Schema.{office_schema}
use Rattle.reg_tables.specs.Selecting.{passes, shows}
use Rattle.reg_tables.specs.Values.{same_value}
use Rattle.reg_tables.specs.Version.{newest, schema_of, tables_of}
use Rattle.reg_tables.specs.declared.version.Version.{Version}

-- each rowid is an integer, and a row is known by it
pub record AreKeyed (rows : List Row) : Type 0 where
  pub whole : (r : Row) → Has rows r → is_int (rowid r) ≡ true
  pub one : (r q : Row) → Has rows r → Has rows q → value_cmp (rowid r) (rowid q) ≡ Equal → r ≡ q

-- so it is in each table of an office
abbrev pub AreTables : Trees → Type 0
AreTables trees = AllByRecursion (λ t. AreKeyed (trees t.tree)) office_schema.tables

-- the tables are those of a version, obey their rules, and have their rows by rowids
pub record IsOfficeOf (v : Version) (db : Database) : Type 0 where
  pub schema : db.schema ≡ schema_of v
  pub sound : IsDatabase db
  pub tables : AllByRecursion (λ t. AreKeyed (db.trees t.tree)) (tables_of v)

-- they are those of the newest
abbrev pub IsOffice : Database → Type 0
IsOffice = IsOfficeOf newest

-- the rows of the table that pass are gone, and each other table is as it was
pub record LosesRows (t : ℕ) (goes : Row → Bool) (old new : Database) : Type 0 where
  pub schema : new.schema ≡ old.schema
  pub sound : IsDatabase new
  pub rows : new.trees t ≡ filter (λ row. not (goes row)) (old.trees t)
  pub keyed : AreKeyed (new.trees t)
  pub others : (u : ℕ) → u ≢ t → IsNoIndex office_schema u → new.trees u ≡ old.trees u

-- each row that passes becomes another
abbrev pub altered : (Row → Bool) → (Row → Row) → Row → Row
altered alters by row = if alters row then by row else row

-- The rows of the table that pass are replaced, and each other table is as it was.
-- Rows that were in the order of their rowids stay where they are.
pub record AltersRows (t : ℕ) (alters : Row → Bool) (by : Row → Row) (old new : Database)
    : Type 0 where
  pub schema : new.schema ≡ old.schema
  pub sound : IsDatabase new
  pub rows : IsPermutation (map (altered alters by) (old.trees t)) (new.trees t)
  pub in_place : IsTable (old.trees t) → new.trees t ≡ map (altered alters by) (old.trees t)
  pub keyed : AreKeyed (new.trees t)
  pub others : (u : ℕ) → u ≢ t → IsNoIndex office_schema u → new.trees u ≡ old.trees u

-- the rows of the table that pass the tests are gone
abbrev pub DeletedRows : ℕ → List Term → Row → Database → Database → Type 0
DeletedRows t tests params = LosesRows t (passes tests params)

-- each row of the table that passes the tests is now what the terms show of it
abbrev pub ChangedRows : ℕ → List Term → List Term → Row → Database → Database → Type 0
ChangedRows t tests project params = AltersRows t (passes tests params) (shows project params)

-- the row has these values at these places
abbrev pub has_all : List (ℕ × Value) → Row → Bool
has_all cells row = list_all (λ cell. same_value (column row cell.0) cell.1) cells

-- the first places of a row, with NULL past its end
abbrev pub front : ℕ → Row → Row
front n row = map (column row) (range_with_len 0 n)
