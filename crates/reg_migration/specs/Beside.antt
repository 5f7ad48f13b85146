-- What becomes of an office of an older version that stands beside other tables.
use Rattle.std.specs.Prelude.{◌≡◌, ◌≢◌, ℕ, ℤ, Bool, false, List, []}
use Rattle.std.specs.List.{AllByRecursion, list_any}
use Rattle.sqlite.specs.Effect.{Database}
use Rattle.sqlite.specs.Schema.{Schema}
use Rattle.sqlite.specs.Table.{Table}
use Rattle.sqlite_catalog.specs.Change.{next_tree}
use Rattle.sqlite_schema.specs.Names.{same_name}
use Rattle.sqlite_schema.specs.declared.schema.Reference.{Reference}
use Rattle.reg_tables.specs.Editing.{AreKeyed}
use Rattle.reg_tables.specs.Having.{HasTable}
use Rattle.reg_tables.specs.Making.{HasCounter, HasRows, HasVersion, placed, with_tables}
use Rattle.reg_tables.specs.Schema.{office_table}
use Rattle.reg_tables.specs.Version.{below, later_than, newest, number_of}
use Rattle.reg_tables.specs.declared.version.Version.{Version}

-- the table refers to the one of this name by a foreign key
abbrev pub refers_to : List ℕ → Table → Bool
refers_to name t = list_any (λ (r : Reference). same_name name r.parent) t.references

-- the table of the office alone is in its tree, and no table refers to it
pub record IsSole (schema : Schema) (at : HasTable schema office_table) : Type 0 where
  pub tree : AllByRecursion (λ (t : Table). t.tree ≡ at.table.tree → t ≡ at.table) schema.tables
  pub unreferred : list_any (refers_to office_table.name) schema.tables ≡ false

-- the tables that a version lacks came after those that were there, all empty, and these have the rows
-- that they had
abbrev pub MakesLater : Version → Database → Database → Type 0
MakesLater v old new =
    HasCounter old.schema
    → HasRows (with_tables old.schema (later_than v)) (below (next_tree old.schema) old.trees) new

-- the one row of the table of the office says the newest version, where it said another and is known by
-- its rowid; each other table has the rows that it had
pub record RaisesVersion (old new : Database) (at : HasTable old.schema office_table) : Type 0 where
  pub kept : AllByRecursion (λ (t : Table). t.tree ≢ at.table.tree
      → new.trees t.tree ≡ old.trees t.tree) old.schema.tables
  pub version : (n : ℤ) → AreKeyed (old.trees at.table.tree)
      → HasVersion n (old.trees at.table.tree)
      → HasVersion (number_of newest) (new.trees at.table.tree)

-- so it is wherever the table of the office stands, if it alone is in its tree
abbrev pub RaisesAnywhere : Database → Database → Type 0
RaisesAnywhere old new =
    (at : HasTable old.schema office_table) → IsSole old.schema at → RaisesVersion old new at

-- An office of a version was brought to the newest, wherever its tables stand: those that it lacked came
-- after all others, empty; its one row says the newest version, if it is known by its rowid; and each
-- other table, the office's and those beside it, has the rows that it had.
pub record IsUpgradedBeside (v : Version) (old new : Database) (at : HasTable old.schema office_table)
    : Type 0 where
  pub has : new.schema ≡ with_tables old.schema (later_than v)
  pub kept : AllByRecursion (λ (t : Table). t.tree ≢ at.table.tree
      → new.trees t.tree ≡ old.trees t.tree) old.schema.tables
  pub version : AreKeyed (old.trees at.table.tree)
      → HasVersion (number_of newest) (new.trees at.table.tree)
  pub empty : AllByRecursion (λ (t : Table). new.trees t.tree ≡ [])
      (placed old.schema (later_than v))

-- so it is in a store whose row says that version
pub record UpgradesBeside (v : Version) (old new : Database) : Type 0 where
  pub beside : (at : HasTable old.schema office_table) → HasCounter old.schema
      → IsSole old.schema at → HasVersion (number_of v) (old.trees at.table.tree)
      → IsUpgradedBeside v old new at
