-- The rowids of a table's rows.
use Rattle.std.specs.Prelude.{◌≡◌, ◌⊎◌, ℤ, ℕ, List, [], ◌∷◌, Option}
use Rattle.std.specs.List.{AllByRecursion}
use Rattle.sqlite.specs.Order.{Row, column}
use Rattle.sqlite.specs.Term.{Term, col}
use Rattle.sqlite.specs.Table.{Table}
use Rattle.sqlite.specs.Tree.{Trees}
use Rattle.sqlite_value.specs.declared.keys.Key.{Key}
use Rattle.reg_records.specs.Columns.{int_in}
use Rattle.reg_tables.specs.Editing.{AreKeyed}
use Rattle.reg_tables.specs.Schema.{office_table, ranges_table, registries_table}
use Rattle.reg_tables.specs.Selecting.{SelectsFrom, ordered_by}

-- the rowid that a row begins with
abbrev pub rowid_in : Row → Option ℤ
rowid_in row = int_in (column row 0)

-- the text is a query of the rowids of the table in a tree
abbrev pub SelectsRowids : List ℕ → ℕ → List (Term × Key) → Type 0
SelectsRowids sql t = SelectsFrom 4 sql t [] (col 1 0 ∷ [])

-- each text is the query of the rowids of the table in its place, in their order
abbrev pub AreRowids : List (List ℕ) → List Table → Type 0
AreRowids [] [] = Unit {0}
AreRowids [] (t ∷ tables) = ⊥
AreRowids (text ∷ texts) [] = ⊥
AreRowids (text ∷ texts) (t ∷ tables) =
    SelectsRowids text t.tree (ordered_by (0 ∷ [])) × AreRowids texts tables

-- the text is one of these
abbrev pub IsAmong : List (List ℕ) → List ℕ → Type 0
IsAmong [] sql = ⊥
IsAmong (text ∷ texts) sql = (sql ≡ text) ⊎ IsAmong texts sql

-- the text is the query of the rowids of one of these tables, in their order
abbrev pub AsksRowids : List Table → List ℕ → Type 0
AsksRowids [] sql = ⊥
AsksRowids (t ∷ tables) sql =
    SelectsRowids sql t.tree (ordered_by (0 ∷ [])) ⊎ AsksRowids tables sql

-- the tables that the texts are about have their rows by rowids
abbrev pub KeysEach : List (List ℕ) → Trees → Type 0
KeysEach texts trees =
    (tables : List Table) → AreRowids texts tables
    → AllByRecursion (λ t. AreKeyed (trees t.tree)) tables

-- the tables whose rows are not read in the order of their rowids: the version before all others,
-- and a registry with its ranges, in the order of names
abbrev pub ordered_tables : List Table
ordered_tables = office_table ∷ registries_table ∷ ranges_table ∷ []

-- they have their rows by rowids
abbrev pub AreOrderedKeyed : Trees → Type 0
AreOrderedKeyed trees = AllByRecursion (λ t. AreKeyed (trees t.tree)) ordered_tables
