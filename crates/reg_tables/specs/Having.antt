-- The tables of an office in a schema that may have other tables beside them.
use Rattle.std.specs.Prelude.{◌≡◌, ℕ, ◌+◌, ◌≤◌, true, false, List, [], ◌∷◌, ◌++◌, length, filter, slice_get, slice_range, Some, Ok, ◌==◌}
use Rattle.std.specs.List.{AllByRecursion, list_all}
use Rattle.sqlite.specs.Compile.{table_defined_by}
use Rattle.sqlite.specs.Schema.{Schema}
use Rattle.sqlite.specs.Table.{Table}
use Rattle.sqlite_catalog.specs.Change.{is_used}
use Rattle.sqlite_resolve.specs.Compile.{first}
use Rattle.sqlite_schema.specs.Names.{same_name, table_named}
use Rattle.sqlite_schema.specs.declared.schema.Index.{Index}
use Rattle.sqlite_syntax.specs.declared.statement.Parsed.{Parsed}
use Rattle.reg_tables.specs.Kinds.{is_making}
use Rattle.reg_tables.specs.Schema.{office_schema}
use Rattle.reg_tables.specs.Version.{later_than, tables_of}
use Rattle.reg_tables.specs.declared.version.Version.{Version}

-- a table as its text alone defines it, before it has a tree
abbrev pub unplaced : Table → Table
unplaced table = record table { tree = 0 }

-- the table of this name is this one, whatever its tree is
pub record HasTable (schema : Schema) (t : Table) : Type 0 where
  pub at : ℕ
  pub table : Table
  pub named : table_named schema t.name ≡ Some at
  pub there : slice_get schema.tables at ≡ Some table
  pub same : unplaced table ≡ unplaced t

-- it has as many indexes as keys
pub record FindsTable (schema : Schema) (t : Table) : Type 0 where
  pub has : HasTable schema t
  pub indexed : length (filter (λ (i : Index). i.table == has.table.tree) schema.indexes)
      ≡ length t.uniques

-- the tables of an office are there, wherever they stand
abbrev pub HasTables : Schema → Type 0
HasTables schema = AllByRecursion (HasTable schema) office_schema.tables

-- so are those of a version, and nothing has the name of a table that the version lacks
abbrev pub FindsTablesOf : Version → Schema → Type 0
FindsTablesOf v schema = AllByRecursion (FindsTable schema) (tables_of v)

abbrev pub AreFreeLater : Version → Schema → Type 0
AreFreeLater v schema =
    AllByRecursion (λ (t : Table). is_used schema t.name ≡ false) (later_than v)

-- none of their names is taken
abbrev pub AreFree : Schema → Type 0
AreFree schema = AllByRecursion (λ (t : Table). is_used schema t.name ≡ false) office_schema.tables

-- the schema has at least so many tables and indexes more, and else is as it was
pub record Extends (tables indexes : ℕ) (old new : Schema) : Type 0 where
  pub views : new.views ≡ old.views
  pub tables_come : (more : List Table) × (new.tables ≡ old.tables ++ more)
      × (tables ≤ length more)
  pub indexes_come : (more : List Index) × (new.indexes ≡ old.indexes ++ more)
      × (indexes ≤ length more)

-- among those are these tables
pub record Gains (all : List Table) (tables indexes : ℕ) (old new : Schema) : Type 0 where
  pub extends : Extends tables indexes old new
  pub has : AllByRecursion (HasTable new) all

-- how many indexes are made for the keys of tables
abbrev pub keys_of : List Table → ℕ
keys_of [] = 0
keys_of (t ∷ tables) = length t.uniques + keys_of tables

-- these tables came, with their indexes
abbrev pub GainsTables : List Table → Schema → Schema → Type 0
GainsTables tables = Gains tables (length tables) (keys_of tables)

-- the text makes this table and is no more than that, whatever tables there are
pub record Defines (text : List ℕ) (table : Table) : Type 0 where
  pub parsed : Parsed
  pub is : first text ≡ Ok parsed
  pub makes : is_making parsed.statement ≡ true
  pub whole : slice_range text parsed.start parsed.end ≡ text
  pub defined : table_defined_by text ≡ Ok table

-- where the text defines a table, this came, with its indexes
abbrev pub GainsOne : List ℕ → Schema → Schema → Type 0
GainsOne text old new =
    (table : Table) → Defines text (unplaced table) → same_name table.name table.name ≡ true
    → Gains (table ∷ []) 1 (length table.uniques) old new

-- each text makes the table in its place
abbrev pub AreDefined : List (List ℕ) → List Table → Type 0
AreDefined [] [] = Unit {0}
AreDefined [] (t ∷ tables) = ⊥
AreDefined (text ∷ texts) [] = ⊥
AreDefined (text ∷ texts) (t ∷ tables) = Defines text (unplaced t) × AreDefined texts tables

-- each has a name that is found again
abbrev pub AreNamed : List Table → Type 0
AreNamed tables = list_all (λ (t : Table). same_name t.name t.name) tables ≡ true

-- of each store, if the texts define tables, these came
abbrev pub GainsEach : List (List ℕ) → Schema → Schema → Type 0
GainsEach texts old new =
    (tables : List Table) → AreDefined texts tables → AreNamed tables → GainsTables tables old new
