-- Where the tables that a version lacks came, and the whole is an office, there was one of that version.
use Rattle.std.proofs.Common.{◌≡◌, ◌==◌, ◌&&◌, ◌+◌, ◌-◌, ◌<◌, ◌≤◌, ◌++◌, inl, inr, ℕ, zero, suc, List, []}
use Rattle.std.proofs.Common.{length, take, filter, slice_get, Bool, true, not, Option, Some}
use Rattle.std.proofs.Common.{is_none, refl, sym, ap, subst, ◌∙◌, arith, length-append}
use Rattle.std.proofs.lemmas.Bool.{and_parts, cases_eq, eq-eqb, both_ways, not-true}
use Rattle.std.proofs.Math.Seq.{take-append_seam}
use Rattle.sqlite.specs.Schema.{Schema}
use Rattle.sqlite.specs.Table.{Table}
use Rattle.sqlite_rules.proofs.ListLemmas.{all_has, has_got}
use Rattle.sqlite_schema.specs.Names.{same_name, table_named}
use Rattle.sqlite_schema.specs.declared.schema.Index.{Index}
use Rattle.reg_tables.specs.Having.{FindsTable, FindsTablesOf, GainsTables, keys_of}
use Rattle.reg_tables.specs.Schema.{agents_table, blocks_table, journal_table, minutes_table}
use Rattle.reg_tables.specs.Schema.{office_schema}
use Rattle.reg_tables.specs.Version.{index_count, later_than, schema_of, table_count, tables_of}
use Rattle.reg_tables.specs.declared.version.Version.{Version}
use Rattle.reg_tables.specs.declared.version.Version.TheVariants.{First, Second, Third, Fourth}

-- ---- Numbers below one

abbrev all_below : (ℕ → Bool) → ℕ → Bool
all_below p zero = true
all_below p (suc n) = p n && all_below p n

passes_below : (p : ℕ → Bool) (n k : ℕ) → all_below p n ≡ true → k < n → p k ≡ true
passes_below p zero k e less = absurd (omega (arith, less))
passes_below p (suc n) k e less =
    let both = and_parts (p n) (all_below p n) e in
    elim (cases_eq k n) [
      | inl same ↦ rw same both.0
      | inr other ↦ passes_below p n k both.1 (omega (arith, less, other))
    ]

-- ---- What is so of each version

abbrev last_of : Version → Table
last_of First = blocks_table
last_of Second = minutes_table
last_of Third = agents_table
last_of Fourth = journal_table

-- the schema with the office's first so many tables, and these indexes
abbrev with_first : ℕ → List Index → Schema
with_first n indexes =
    record { tables = take n office_schema.tables; indexes = indexes; views = [] }

abbrev is_unnamed : Version → ℕ → Bool
is_unnamed v n = is_none (table_named (with_first n []) (last_of v).name)

-- how many of the first so many indexes are the last table's
abbrev last_indexes : Version → ℕ → ℕ
last_indexes v n =
    length (filter (λ (i : Index). i.table == (last_of v).tree) (take n office_schema.indexes))

abbrev is_short : Version → ℕ → Bool
is_short v n = not (last_indexes v n == length (last_of v).uniques)

record IsEnd (v : Version) : Type 0 where
  last : slice_get (tables_of v) (table_count v - 1) ≡ Some (last_of v)
  place : table_named (with_first (table_count v) []) (last_of v).name ≡ Some (table_count v - 1)
  named : all_below (is_unnamed v) (table_count v) ≡ true
  indexed : all_below (is_short v) (index_count v) ≡ true
  tables : table_count v + length (later_than v) ≡ length office_schema.tables
  indexes : index_count v + keys_of (later_than v) ≡ length office_schema.indexes

is_end : (v : Version) → IsEnd v
unfolding same_name
is_end First = record { last = refl; place = refl; named = refl; indexed = refl; tables = refl; indexes = refl }
is_end _ = record { last = refl; place = refl; named = refl; indexed = refl; tables = refl; indexes = refl }

-- ---- The front of a list

front_is : {X : Type 0} (front more all : List X) → all ≡ front ++ more
    → front ≡ take (length front) all
front_is front more all is =
    sym (take-append_seam front more) ∙ ap (take (length front)) (sym is)

front_length : {X : Type 0} (front more all : List X) (n m : ℕ) → all ≡ front ++ more
    → n + m ≡ length all → m ≤ length more → length front ≤ n
front_length front more all n m is whole enough =
    let long = ap length is in
    omega (arith, long, whole, enough, length-append front more)

-- where the number is no less than one that it is not above
exactly : (n m : ℕ) → n ≤ m → ¬ (n < m) → n ≡ m
exactly n m low high = elim (cases_eq n m) [
  | inl same ↦ same
  | inr other ↦ absurd (high (omega (arith, low, other)))
]

-- ---- The schema before

none_named : (o : Option ℕ) (at : ℕ) → o ≡ Some at → is_none o ≡ true → ⊥
none_named o at is none = absurd (let e = rw is at none in cc)

module _ (v : Version) (old new : Schema) (finds : FindsTablesOf v old)
    (gains : GainsTables (later_than v) old new) (is : new ≡ office_schema) where
  abbrev end : IsEnd v
  end = is_end v

  finds_last : FindsTable old (last_of v)
  finds_last = all_has (FindsTable old) (tables_of v) (last_of v) finds
      (has_got (tables_of v) (table_count v - 1) (last_of v) end.last)

  all_tables : office_schema.tables ≡ old.tables ++ gains.extends.tables_come.0
  all_tables = ap (λ (s : Schema). s.tables) (sym is) ∙ gains.extends.tables_come.1

  all_indexes : office_schema.indexes ≡ old.indexes ++ gains.extends.indexes_come.0
  all_indexes = ap (λ (s : Schema). s.indexes) (sym is) ∙ gains.extends.indexes_come.1

  these_tables : old.tables ≡ take (length old.tables) office_schema.tables
  these_tables = front_is old.tables gains.extends.tables_come.0 office_schema.tables all_tables

  these_indexes : old.indexes ≡ take (length old.indexes) office_schema.indexes
  these_indexes =
      front_is old.indexes gains.extends.indexes_come.0 office_schema.indexes all_indexes

  -- with fewer tables there is none of the last one's name
  as_many : length old.tables ≡ table_count v
  as_many = exactly (length old.tables) (table_count v)
      (front_length old.tables gains.extends.tables_come.0 office_schema.tables (table_count v)
      (length (later_than v)) all_tables end.tables gains.extends.tables_come.2)
      (λ less. none_named (table_named (with_first (length old.tables) []) (last_of v).name)
      finds_last.has.at
      (ap (λ tables. table_named (record { tables = tables; indexes = []; views = [] })
      (last_of v).name) (sym these_tables) ∙ finds_last.has.named)
      (passes_below (is_unnamed v) (table_count v) (length old.tables) end.named less))

  tables_are : old.tables ≡ tables_of v
  tables_are = subst (λ n. old.tables ≡ take n office_schema.tables) as_many these_tables

  -- the table of that name is the last one
  last_is : finds_last.has.table ≡ last_of v
  last_is =
      let named = ap (λ tables. table_named (record { tables = tables; indexes = []; views = [] })
      (last_of v).name) (sym tables_are) ∙ finds_last.has.named in
      let both : Some (table_count v - 1) ≡ Some finds_last.has.at = sym end.place ∙ named in
      let at : table_count v - 1 ≡ finds_last.has.at = cc in
      let there : slice_get (tables_of v) (table_count v - 1) ≡ Some finds_last.has.table =
      ap (slice_get (tables_of v)) at
      ∙ ap (λ tables. slice_get tables finds_last.has.at) (sym tables_are)
      ∙ finds_last.has.there in
      let also : Some finds_last.has.table ≡ Some (last_of v) = sym there ∙ end.last in
      cc

  last_indexed : last_indexes v (length old.indexes) ≡ length (last_of v).uniques
  last_indexed =
      ap (λ indexes. length (filter (λ (i : Index). i.table == (last_of v).tree) indexes))
      (sym these_indexes)
      ∙ subst (λ (t : Table). length (filter (λ (i : Index). i.table == t.tree) old.indexes)
      ≡ length (last_of v).uniques) last_is finds_last.indexed

  -- with fewer indexes the last table lacks one
  as_many_indexes : length old.indexes ≡ index_count v
  as_many_indexes = exactly (length old.indexes) (index_count v)
      (front_length old.indexes gains.extends.indexes_come.0 office_schema.indexes (index_count v)
      (keys_of (later_than v)) all_indexes end.indexes gains.extends.indexes_come.2)
      (λ less.
      let short = not-true _ (passes_below (is_short v) (index_count v) (length old.indexes)
      end.indexed less) in
      let same = eq-eqb (last_indexes v (length old.indexes)) (length (last_of v).uniques)
      last_indexed in
      both_ways _ short same)

  pub part_before : old ≡ schema_of v
  part_before =
      let indexes = subst (λ n. old.indexes ≡ take n office_schema.indexes) as_many_indexes
      these_indexes in
      let views : old.views ≡ [] = sym gains.extends.views ∙ ap (λ (s : Schema). s.views) is in
      λ i. record { tables = tables_are i; indexes = indexes i; views = views i }
