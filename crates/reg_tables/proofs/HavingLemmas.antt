-- The tables of an office where they are found.
use Rattle.std.proofs.Common.{not, arith, ◌≤◌, ◌≡◌, ◌==◌, ◌&&◌, ◌+◌, ◌++◌, ◌∙◌, IsTrue, ℕ, Bool, true, false}
use Rattle.std.proofs.Common.{List, [], ◌∷◌, length, filter, slice_get, Option, Some, None}
use Rattle.std.proofs.Common.{refl, sym, ap, subst, length-append, append_assoc}
use Rattle.std.proofs.lemmas.Bool.{and_parts, eqb-true, not-true}
use Rattle.std.specs.List.{AllByRecursion, list_all}
use Rattle.sqlite.specs.Held.{Held, state}
use Rattle.sqlite.specs.Schema.{Schema}
use Rattle.sqlite.specs.State.{HasCleanDisk}
use Rattle.sqlite.specs.Steps.{over_memory}
use Rattle.sqlite_trees.specs.declared.memory.MemStore.{MemStore}
use Rattle.sqlite.proofs.Callers.{memory_is_clean}
use Rattle.sqlite.specs.Table.{Table}
use Rattle.sqlite_catalog.specs.Change.{is_used}
use Rattle.sqlite_schema.specs.Names.{same_name, table_named}
use Rattle.sqlite_schema.specs.declared.schema.Index.{Index}
use Rattle.reg_tables.specs.Connection.{Works}
use Rattle.reg_tables.specs.Having.{AreFreeLater, FindsTable, FindsTablesOf, HasTable}
use Rattle.reg_tables.specs.Version.{later_than, schema_of, table_count, tables_of}
use Rattle.reg_tables.specs.declared.version.Version.{Version}
use Rattle.reg_tables.specs.declared.version.Version.TheVariants.{First, Second, Third, Fourth}
use Rattle.reg_tables.specs.Making.{IsBlank, no_schema}
use Rattle.reg_tables.specs.Schema.{office_schema}
use Rattle.reg_tables.proofs.Library.EachOf.{all_if, all_then}
use Rattle.reg_tables.proofs.Library.GrowingLists.{got_at_end}

pub all_has : (schema : Schema) (tables : List Table) → AllByRecursion (FindsTable schema) tables
    → AllByRecursion (HasTable schema) tables
all_has schema tables found = all_then tables found (λ t it. it.has)

abbrev is_some_of : (ℕ → Bool) → Option ℕ → Bool
is_some_of p None = false
is_some_of p (Some n) = p n

some_is : (o : Option ℕ) (at : ℕ) → is_some_of (λ n. n == at) o ≡ true → o ≡ Some at
some_is None at e = absurd (cc)
some_is (Some n) at e = ap Some (eqb-true n at e)

-- the table at the place has this name, and as many indexes as keys
abbrev is_found_at : Schema → ℕ → Table → Bool
is_found_at schema at t =
    is_some_of (λ n. n == at) (table_named schema t.name)
    && (length (filter (λ (i : Index). i.table == t.tree) schema.indexes) == length t.uniques)

abbrev are_found_from : Schema → ℕ → List Table → Bool
are_found_from schema at [] = true
are_found_from schema at (t ∷ tables) =
    is_found_at schema at t && are_found_from schema (at + 1) tables

found_from : (schema : Schema) (front tables : List Table) → schema.tables ≡ front ++ tables
    → are_found_from schema (length front) tables ≡ true
    → AllByRecursion (FindsTable schema) tables
found_from schema front [] is e = tt
found_from schema front (t ∷ tables) is e =
    let count = length-append front (t ∷ []) in
    let next : front ++ t ∷ tables ≡ (front ++ t ∷ []) ++ tables =
    sym (append_assoc front (t ∷ []) tables) in
    let both = and_parts (is_found_at schema (length front) t)
    (are_found_from schema (length front + 1) tables) e in
    let here = and_parts _ _ both.0 in (
      record {
        has = record {
          at = length front;
          table = t;
          named = some_is (table_named schema t.name) (length front) here.0;
          there = ap (λ all. slice_get all (length front)) is ∙ got_at_end front t tables;
          same = refl;
        };
        indexed = eqb-true _ _ here.1;
      },
      found_from schema (front ++ t ∷ []) tables (is ∙ next)
          (subst (λ n. are_found_from schema n tables ≡ true) (sym count) both.1),
    )

free_by : (schema : Schema) (tables : List Table)
    → list_all (λ (t : Table). not (is_used schema t.name)) tables ≡ true
    → AllByRecursion (λ (t : Table). is_used schema t.name ≡ false) tables
free_by schema tables e =
    all_if (λ (t : Table). not (is_used schema t.name)) _ tables e (λ t free. not-true _ free)

-- a version has some of the tables
pub counted : (v : Version) → table_count v ≤ length office_schema.tables
counted First = omega arith
counted _ = omega arith

version_has : (v : Version) → FindsTablesOf v (schema_of v)
unfolding same_name
version_has First = found_from (schema_of First) [] (tables_of First) refl refl
version_has Second = found_from (schema_of Second) [] (tables_of Second) refl refl
version_has Third = found_from (schema_of Third) [] (tables_of Third) refl refl
version_has Fourth = found_from (schema_of Fourth) [] (tables_of Fourth) refl refl

version_lacks : (v : Version) → AreFreeLater v (schema_of v)
unfolding same_name
version_lacks First = free_by (schema_of First) (later_than First) refl
version_lacks Second = free_by (schema_of Second) (later_than Second) refl
version_lacks Third = free_by (schema_of Third) (later_than Third) refl
version_lacks Fourth = free_by (schema_of Fourth) (later_than Fourth) refl

-- the schema of a version has its tables, and no name of those that it lacks
pub version_found : (v : Version) (schema : Schema) → schema ≡ schema_of v
    → FindsTablesOf v schema × AreFreeLater v schema
version_found v schema is =
    subst (λ s. FindsTablesOf v s × AreFreeLater v s) (sym is) (version_has v, version_lacks v)

-- the tables are an office's that were made in an empty store in memory
pub memory_made : (old new : Held MemStore) → (state over_memory old).now.schema ≡ no_schema
    → (HasCleanDisk (state over_memory new) → IsTrue (state over_memory new).is_open)
    → (Works (state over_memory new) → IsBlank no_schema (state over_memory old).now
    → IsBlank office_schema (state over_memory new).now)
    → (state over_memory new).now.schema ≡ office_schema
memory_made old new empty live made =
    let clean = memory_is_clean new in
    (made (record { clean = clean; is_open = live clean }) (record { has = empty; empty = tt })).has
