-- The versions of the schema, each with its tables.
use Rattle.std.specs.Prelude.{nat_lt, if◌then◌else◌, ◌≢◌, ℕ, ℤ, pos, List, [], take, drop}
use Rattle.sqlite.specs.Schema.{Schema}
use Rattle.sqlite.specs.Tree.{Trees}
use Rattle.sqlite_catalog.specs.Change.{next_tree}
use Rattle.sqlite.specs.Table.{Table}
use Rattle.reg_tables.specs.Schema.{office_schema}
use Rattle.reg_tables.specs.declared.version.Version.{Version}
use Rattle.reg_tables.specs.declared.version.Version.TheVariants.{First, Second, Third, Fourth}

-- how many tables a version has, and how many indexes
abbrev pub table_count : Version → ℕ
table_count First = 10
table_count Second = 12
table_count Third = 13
table_count Fourth = 14

abbrev pub index_count : Version → ℕ
index_count First = 11
index_count Second = 13
index_count Third = 15
index_count Fourth = 17

abbrev pub number_of : Version → ℤ
number_of First = pos 1
number_of Second = pos 2
number_of Third = pos 3
number_of Fourth = pos 4

-- the version that the tables are made of
abbrev pub newest : Version
newest = Fourth

-- the tables of a version are the first of the newest's: a later version only adds some
abbrev pub tables_of : Version → List Table
tables_of v = take (table_count v) office_schema.tables

-- the tables that a version lacks
abbrev pub later_than : Version → List Table
later_than v = drop (table_count v) office_schema.tables

abbrev pub schema_of : Version → Schema
schema_of v = record {
  tables = tables_of v;
  indexes = take (index_count v) office_schema.indexes;
  views = [];
}

-- the first tree that is none of a version's tables and indexes
abbrev pub end_of : Version → ℕ
end_of v = next_tree (schema_of v)

-- the rows in the trees below this one; the others have none
abbrev pub below : ℕ → Trees → Trees
below n trees = λ t. if nat_lt t n then trees t else []

-- the rows of a version's tables; those that it lacks have none
abbrev pub rows_of : Version → Trees → Trees
rows_of v = below (end_of v)

-- no version has this number
abbrev pub IsOther : ℤ → Type 0
IsOther n = (v : Version) → n ≢ number_of v
