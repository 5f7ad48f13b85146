-- What is so of each version.
use Rattle.std.proofs.Common.{◌≡◌, ℕ, zero, suc, ◌≤◌, List, [], ◌∷◌, take, refl, sym, ap, ◌∙◌, arith}
use Rattle.std.specs.Fmt.{digits}
use Rattle.std.specs.List.{AllByRecursion}
use Rattle.std.proofs.lemmas.List.{take-take}
use Rattle.sqlite.specs.Schema.{Schema}
use Rattle.sqlite.specs.Table.{Table}
use Rattle.sqlite.specs.Tree.{Trees}
use Rattle.sqlite_trees.proofs.ListLemmas.{all-append}
use Rattle.reg_tables.specs.Editing.{AreKeyed}
use Rattle.reg_tables.specs.Schema.{office_schema}
use Rattle.reg_tables.specs.Selecting.{BeginsWith}
use Rattle.reg_tables.specs.Version.{later_than, number_of, rows_of, schema_of, table_count, tables_of}
use Rattle.reg_tables.specs.declared.version.Version.{Version}
use Rattle.reg_tables.specs.declared.version.Version.TheVariants.{First, Second, Third, Fourth}
use Rattle.reg_statements.specs.Tables.{tables_in}
use Rattle.reg_opening.proofs.RowidLemmas.{keyed_none}

-- a store of a version begins with its tables
pub schema_first : {schema : Schema} (v : Version) → schema ≡ schema_of v
    → BeginsWith (table_count v) schema
schema_first v is = record {
  tables = ap (λ (s : Schema). take (table_count v) s.tables) is
      ∙ take-take (table_count v) (table_count v) office_schema.tables (omega arith);
  views = ap (λ (s : Schema). s.views) is;
}

-- and with as many of them
pub version_begins : {schema : Schema} (v : Version) (n : ℕ) → n ≤ table_count v
    → BeginsWith (table_count v) schema → BeginsWith n schema
version_begins {schema} v n few begins = record {
  tables = sym (take-take n (table_count v) schema.tables few) ∙ ap (take n) begins.tables
      ∙ take-take n (table_count v) office_schema.tables few;
  views = begins.views;
}

-- each has ten at least
ten : (v : Version) → 10 ≤ table_count v
ten First = omega arith
ten _ = omega arith

pub first_begins : {schema : Schema} (v : Version) (n : ℕ) → n ≤ 10
    → BeginsWith (table_count v) schema → BeginsWith n schema
first_begins v n few begins =
    let many = ten v in version_begins v n (omega arith) begins

-- ---- Numbers

pub number_exact : (v w : Version) → number_of v ≡ number_of w → v ≡ w
number_exact First First same = refl
number_exact Second Second same = refl
number_exact Third Third same = refl
number_exact Fourth Fourth same = refl
number_exact _ _ same = absurd (cc)

-- ---- The tables that each version has

-- the version, the registries and their ranges are in each
pub office_rows : (v : Version) (trees : Trees)
    → (tables_in (rows_of v trees)).office ≡ (tables_in trees).office
unfolding digits
office_rows First trees = refl
office_rows _ trees = refl

pub registries_rows : (v : Version) (trees : Trees)
    → (tables_in (rows_of v trees)).registries ≡ (tables_in trees).registries
unfolding digits
registries_rows First trees = refl
registries_rows _ trees = refl

pub ranges_rows : (v : Version) (trees : Trees)
    → (tables_in (rows_of v trees)).ranges ≡ (tables_in trees).ranges
unfolding digits
ranges_rows First trees = refl
ranges_rows _ trees = refl

-- the tables of a version have their rows by rowids just where all have that it has or lacks
abbrev AreKeyedIn : Version → Trees → List Table → Type 0
AreKeyedIn v trees tables = AllByRecursion (λ t. AreKeyed (rows_of v trees t.tree)) tables

first_all : (P : Table → Type 0) (n : ℕ) (tables : List Table) → AllByRecursion P tables
    → AllByRecursion P (take n tables)
first_all P zero tables all = tt
first_all P (suc n) [] all = tt
first_all P (suc n) (t ∷ tables) all = (all.0, first_all P n tables all.1)

pub version_keyed : (v : Version) (trees : Trees) → AreKeyedIn v trees office_schema.tables
    → AllByRecursion (λ t. AreKeyed (trees t.tree)) (tables_of v)
unfolding digits
version_keyed First trees all = first_all (λ t. AreKeyed (rows_of First trees t.tree)) 10 office_schema.tables all
version_keyed Second trees all = first_all (λ t. AreKeyed (rows_of Second trees t.tree)) 12 office_schema.tables all
version_keyed Third trees all = first_all (λ t. AreKeyed (rows_of Third trees t.tree)) 13 office_schema.tables all
version_keyed Fourth trees all = first_all (λ t. AreKeyed (rows_of Fourth trees t.tree)) 14 office_schema.tables all

pub keyed_version : (v : Version) (trees : Trees)
    → AllByRecursion (λ t. AreKeyed (trees t.tree)) (tables_of v)
    → AreKeyedIn v trees office_schema.tables
unfolding digits
keyed_version First trees all =
    all-append (λ t. AreKeyed (rows_of First trees t.tree)) (tables_of First) (later_than First) all
    (keyed_none, (keyed_none, (keyed_none, (keyed_none, tt))))
keyed_version Second trees all =
    all-append (λ t. AreKeyed (rows_of Second trees t.tree)) (tables_of Second) (later_than Second) all
    (keyed_none, (keyed_none, tt))
keyed_version Third trees all =
    all-append (λ t. AreKeyed (rows_of Third trees t.tree)) (tables_of Third) (later_than Third) all
    (keyed_none, tt)
keyed_version Fourth trees all =
    all-append (λ t. AreKeyed (rows_of Fourth trees t.tree)) (tables_of Fourth) (later_than Fourth) all tt
