-- What CREATE TABLE texts leave, and a store that holds no more than the version of its tables.
use Rattle.std.specs.Prelude.{ℤ, ◌≡◌, ℕ, List, [], ◌∷◌, drop, fold, false, slice_get, Some}
use Rattle.std.specs.List.{AllByRecursion, list_any}
use Rattle.sqlite.specs.declared.types.Value.TheVariants.{Int}
use Rattle.sqlite.specs.Order.{Row, column}
use Rattle.sqlite.specs.Tree.{Trees}
use Rattle.sqlite.specs.Table.{Table}
use Rattle.sqlite.specs.Schema.{Schema}
use Rattle.sqlite_catalog.specs.Change.{created, next_tree, KeepsRows}
use Rattle.sqlite.specs.Does.{lacks_sequence}
use Rattle.sqlite.specs.Effect.{Database, IsDatabase}
use Rattle.sqlite_schema.specs.Names.{table_named}
use Rattle.reg_tables.specs.Editing.{IsOffice}
use Rattle.reg_tables.specs.Having.{AreDefined, AreFree, Defines, GainsTables, unplaced}
use Rattle.reg_tables.specs.Inserting.{AddedRow, AddedTo}
use Rattle.reg_tables.specs.Schema.{office_table, office_schema}
use Rattle.reg_tables.specs.Version.{later_than, newest, number_of, tables_of}
use Rattle.reg_tables.specs.declared.version.Version.{Version}

-- the schema without a table
abbrev pub no_schema : Schema
no_schema = record { tables = []; indexes = []; views = [] }

-- the schema with these tables after its own, each in a tree of its own
abbrev pub with_tables : Schema → List Table → Schema
with_tables schema tables = fold (λ s t. created s (unplaced t)) schema tables

-- these tables, each in the tree that it gets where they come to a schema
abbrev pub placed : Schema → List Table → List Table
placed schema [] = []
placed schema (t ∷ tables) =
    record t { tree = next_tree schema } ∷ placed (created schema (unplaced t)) tables

-- where a table counts its rowids (AUTOINCREMENT), the table that counts them is there
abbrev pub HasCounter : Schema → Type 0
HasCounter schema = lacks_sequence schema ≡ false

-- there is no table that counts its rowids
abbrev pub AreCountless : List Table → Type 0
AreCountless tables = list_any (λ (t : Table). t.is_counted) tables ≡ false

-- the table came, and is empty; the others have the rows that they had
pub record IsMade (schema : Schema) (table : Table) (old new : Database) : Type 0 where
  pub has : new.schema ≡ created schema table
  pub empty : new.trees (next_tree schema) ≡ []
  pub others : KeepsRows schema.tables old.trees new.trees
  pub sound : IsDatabase new

-- so it is of a store of each schema, if the text defines a table
abbrev pub MakesOne : List ℕ → Database → Database → Type 0
MakesOne text old new =
    (schema : Schema) (table : Table) → Defines text (unplaced table) → HasCounter schema
    → table.is_counted ≡ false → old.schema ≡ schema → IsMade schema (unplaced table) old new

-- the store has this schema, and in each of its tables these rows
pub record HasRows (schema : Schema) (held : Trees) (db : Database) : Type 0 where
  pub has : db.schema ≡ schema
  pub rows : AllByRecursion (λ t. db.trees t.tree ≡ held t.tree) schema.tables

-- in the trees that these tables will have nothing is held
abbrev pub AreToBeEmpty : Trees → Schema → List Table → Type 0
AreToBeEmpty held schema [] = Unit {0}
AreToBeEmpty held schema (t ∷ tables) =
    (held (next_tree schema) ≡ []) × AreToBeEmpty held (created schema (unplaced t)) tables

-- the tables of these texts came, all empty, and the others have the rows that they had
abbrev pub MakesEach : List (List ℕ) → Database → Database → Type 0
MakesEach texts old new =
    (schema : Schema) (tables : List Table) (held : Trees) → AreDefined texts tables
    → HasCounter schema → AreCountless tables → AreToBeEmpty held schema tables
    → HasRows schema held old
    → HasRows (with_tables schema tables) held new × (IsDatabase old → IsDatabase new)

-- the store has this schema, and each table is empty
pub record IsBlank (schema : Schema) (db : Database) : Type 0 where
  pub has : db.schema ≡ schema
  pub empty : AllByRecursion (λ t. db.trees t.tree ≡ []) schema.tables

-- the columns of the row that says the version of the schema
abbrev pub version_row : Row
version_row = Int (number_of newest) ∷ []

-- the row of the version comes to the tables of an office that are all empty, and these are an office's
abbrev pub MarksOffice : Database → Database → Type 0
MarksOffice old new =
    IsBlank office_schema old → AddedRow office_table.tree version_row old new × IsOffice new

-- there is one row, which says this version
pub record HasVersion (n : ℤ) (rows : List Row) : Type 0 where
  pub row : Row
  pub only : rows ≡ row ∷ []
  pub says : column row 1 ≡ Int n

-- the row of the table of the office says the newest version
abbrev pub IsVersioned : Trees → Type 0
IsVersioned trees = HasVersion (number_of newest) (trees office_table.tree)

-- the store has the tables of an office, and holds no more than their version
pub record IsFounded (db : Database) : Type 0 where
  pub office : IsOffice db
  pub version : IsVersioned db.trees
  pub empty : AllByRecursion (λ t. db.trees t.tree ≡ []) (drop 1 office_schema.tables)

-- The tables of an office came after those that were there, which have the rows that they had. They
-- hold no more than their version.
pub record IsBegunBeside (old new : Database) : Type 0 where
  pub has : new.schema ≡ with_tables old.schema office_schema.tables
  pub kept : AllByRecursion (λ t. new.trees t.tree ≡ old.trees t.tree) old.schema.tables
  pub version : HasVersion (number_of newest) (new.trees (next_tree old.schema))
  pub empty : AllByRecursion (λ t. new.trees t.tree ≡ [])
      (placed (created old.schema (unplaced office_table)) (drop 1 office_schema.tables))

-- An office is founded: in a store without tables it is all that there is; wherever it is, its tables
-- came; and beside other tables these are as they were.
pub record Founds (old new : Database) : Type 0 where
  pub made : IsBlank no_schema old → IsFounded new
  pub gained : GainsTables office_schema.tables old.schema new.schema
  pub beside : AreFree old.schema → HasCounter old.schema → IsBegunBeside old new

-- wherever the table of the office stands, the row of the version comes to it
abbrev pub AddsVersion : Database → Database → Type 0
AddsVersion old new =
    (at k : ℕ) → table_named old.schema office_table.name ≡ Some at
    → slice_get old.schema.tables at ≡ Some (record office_table { tree = k })
    → AddedTo old.schema k version_row old new

-- the tables that a version lacks came, all empty, and the others have the rows that they had
pub record HasLater (v : Version) (old new : Database) : Type 0 where
  pub office : IsOffice new
  pub kept : AllByRecursion (λ t. new.trees t.tree ≡ old.trees t.tree) (tables_of v)
  pub empty : AllByRecursion (λ t. new.trees t.tree ≡ []) (later_than v)

-- an office of a version is one of the newest, with all rows that it had, and no others
pub record IsMigrated (v : Version) (old new : Database) : Type 0 where
  pub office : IsOffice new
  pub version : IsVersioned new.trees
  pub kept : AllByRecursion (λ t. new.trees t.tree ≡ old.trees t.tree) (drop 1 (tables_of v))
  pub empty : AllByRecursion (λ t. new.trees t.tree ≡ []) (later_than v)

-- the row of the office says the newest version, and each other table is as it was
pub record IsRaised (old new : Database) : Type 0 where
  pub office : IsOffice new
  pub version : IsVersioned new.trees
  pub others : AllByRecursion (λ t. new.trees t.tree ≡ old.trees t.tree)
      (drop 1 office_schema.tables)
