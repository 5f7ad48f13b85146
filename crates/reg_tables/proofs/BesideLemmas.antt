-- An office is begun beside other tables.
use Rattle.std.proofs.Common.{◌≡◌, ◌≢◌, inl, inr, ◌<◌, ◌≤◌, ℕ, nat_lt, true, List, [], ◌∷◌, ◌++◌}
use Rattle.std.proofs.Common.{length, drop, Some, slice_get, refl, sym, ap, subst, ◌∙◌, arith}
use Rattle.std.specs.List.{AllByRecursion, position_from}
use Rattle.std.specs.List.Sorted.{IsPermutation}
use Rattle.std.proofs.lemmas.Bool.{cases_Bool, lt-ltb, ltb-true}
use Rattle.std.proofs.lemmas.List.{append_assoc, append-nil}
use Rattle.sqlite.proofs.Callers.{one_permutation}
use Rattle.sqlite.specs.Effect.{Database}
use Rattle.sqlite.specs.Schema.{Schema}
use Rattle.sqlite.specs.Table.{Table}
use Rattle.sqlite.specs.Tree.{Trees}
use Rattle.sqlite_catalog.proofs.StepLemmas.{table_below}
use Rattle.sqlite_catalog.specs.Change.{created, next_tree}
use Rattle.sqlite_rules.proofs.ListLemmas.{all_from, all_has, has_left, has_right}
use Rattle.sqlite_schema.specs.Names.{same_name}
use Rattle.reg_tables.specs.Having.{AreFree, unplaced}
use Rattle.reg_tables.specs.Making.{AddsVersion, AreToBeEmpty, HasCounter, IsBegunBeside}
use Rattle.reg_tables.specs.Making.{MakesEach, placed, version_row, with_tables}
use Rattle.reg_tables.specs.Schema.{office_schema, office_table, office_texts}
use Rattle.reg_tables.specs.Version.{below}
use Rattle.reg_tables.proofs.DefineTexts.{all_countless, all_defined}
use Rattle.reg_tables.proofs.Library.EachOf.{all_back}
use Rattle.reg_tables.proofs.Library.GrowingLists.{at_end, got_at_end}
use Rattle.reg_tables.proofs.Library.GrowingSchemas.{unnamed}

-- ---- The trees of tables that come are above those of tables that are there

pub next_above : (schema : Schema) (t : Table) → next_tree schema < next_tree (created schema t)
next_above schema t =
    table_below (created schema t) (record t { tree = next_tree schema })
    (has_right schema.tables (record t { tree = next_tree schema } ∷ []) _ (inl refl))

module _ (n : ℕ) (trees : Trees) where
  pub held_low : (t : ℕ) → t < n → below n trees t ≡ trees t
  held_low t low = rw (lt-ltb t n low) refl

  pub none_high : (t : ℕ) → n ≤ t → below n trees t ≡ []
  none_high t high = elim (cases_Bool (nat_lt t n)) [
    | inl low ↦ absurd (omega (arith, high, ltb-true t n low))
    | inr is ↦ rw is refl
  ]

  pub all_empty : (schema : Schema) (tables : List Table) → n ≤ next_tree schema
      → AreToBeEmpty (below n trees) schema tables
  all_empty schema [] high = tt
  all_empty schema (t ∷ tables) high =
      let more = next_above schema (unplaced t) in (
        none_high (next_tree schema) high,
        all_empty (created schema (unplaced t)) tables (omega (arith, high, more)),
      )

-- ---- The schema

pub tables_are : (schema : Schema) (tables : List Table)
    → (with_tables schema tables).tables ≡ schema.tables ++ placed schema tables
tables_are schema [] = sym (append-nil schema.tables)
tables_are schema (t ∷ tables) =
    tables_are (created schema (unplaced t)) tables ∙ append_assoc schema.tables _ _

office_named : same_name office_table.name office_table.name ≡ true
unfolding same_name
office_named = refl

-- the table of the office stands after those that were there
module _ (schema : Schema) where
  abbrev office_there : Table
  office_there = record office_table { tree = next_tree schema }

  abbrev rest_there : List Table
  rest_there = placed (created schema (unplaced office_table)) (drop 1 office_schema.tables)

  there : slice_get (schema.tables ++ office_there ∷ rest_there) (length schema.tables)
      ≡ Some office_there
  there = got_at_end schema.tables office_there rest_there

  named : AreFree schema → position_from (λ (t : Table). same_name t.name office_table.name) 0
      (schema.tables ++ office_there ∷ rest_there) ≡ Some (length schema.tables)
  named free =
      at_end (λ (t : Table). same_name t.name office_table.name) schema.tables office_there
      rest_there 0 (unnamed schema office_table.name free.0) office_named ∙ ap Some (omega arith)

-- ---- The rows

module _ (k : ℕ) (mid new old : Trees) where
  -- what the row of the version leaves alone holds what it held
  low_kept : (t : Table) → t.tree < k → (t.tree ≢ k → new t.tree ≡ mid t.tree)
      → mid t.tree ≡ below k old t.tree → new t.tree ≡ old t.tree
  low_kept t low beside rows =
      beside (λ same. let e = same in absurd (omega (arith, low, e))) ∙ rows ∙ held_low k old t.tree low

  high_empty : (schema : Schema) (tables : List Table) → k < next_tree schema
      → AllByRecursion (λ (t : Table). t.tree ≢ k → new t.tree ≡ mid t.tree) (placed schema tables)
      → AllByRecursion (λ (t : Table). mid t.tree ≡ below k old t.tree) (placed schema tables)
      → AllByRecursion (λ (t : Table). new t.tree ≡ []) (placed schema tables)
  high_empty schema [] high beside rows = tt
  high_empty schema (t ∷ tables) high beside rows =
      let more = next_above schema (unplaced t) in (
        beside.0 (λ same. let e = same in absurd (omega (arith, high, e))) ∙ rows.0
            ∙ none_high k old (next_tree schema) (omega (arith, high)),
        high_empty (created schema (unplaced t)) tables (omega (arith, high, more)) beside.1 rows.1,
      )

pub begun_beside : (old mid new : Database) → MakesEach office_texts old mid → AddsVersion mid new
    → AreFree old.schema → HasCounter old.schema → IsBegunBeside old new
begun_beside old mid new makes adds free counter =
    let k = next_tree old.schema in
    let low = table_below old.schema in
    let after = created old.schema (unplaced office_table) in
    let made = (makes old.schema office_schema.tables (below k old.trees) all_defined counter
    all_countless (all_empty k old.trees old.schema office_schema.tables (omega arith))
    (record {
      has = refl;
      rows = all_from _ old.schema.tables (λ t here. sym (held_low k old.trees t.tree (low t here)));
    })).0 in
    let are = ap (λ (s : Schema). s.tables) made.has ∙ tables_are old.schema office_schema.tables in
    let added = adds (length old.schema.tables) k
    (ap (position_from (λ (t : Table). same_name t.name office_table.name) 0) are
    ∙ named old.schema free)
    (ap (λ tables. slice_get tables (length old.schema.tables)) are ∙ there old.schema) in
    let Beside = λ (t : Table). t.tree ≢ k → new.trees t.tree ≡ mid.trees t.tree in
    let Holds = λ (t : Table). mid.trees t.tree ≡ below k old.trees t.tree in
    let beside = subst (AllByRecursion Beside) are added.beside in
    let rows = subst (AllByRecursion Holds) (tables_are old.schema office_schema.tables) made.rows in
    let more = placed old.schema office_schema.tables in
    let here = all_back Holds old.schema.tables more rows in
    let others = all_back Beside old.schema.tables more beside in
    let none : mid.trees k ≡ [] = here.0 ∙ none_high k old.trees k (omega arith) in
    record {
      has = added.schema ∙ made.has;
      kept = all_from _ old.schema.tables (λ t here.
          low_kept k mid.trees new.trees old.trees t (low t here)
          (all_has Beside (old.schema.tables ++ more) t beside (has_left old.schema.tables more t here))
          (all_has Holds (old.schema.tables ++ more) t rows (has_left old.schema.tables more t here)));
      version = record {
        row = added.id ∷ version_row;
        only = one_permutation (added.id ∷ version_row) (new.trees k)
            (subst (λ rows. IsPermutation ((added.id ∷ version_row) ∷ rows) (new.trees k)) none
            added.rows);
        says = refl;
      };
      empty = high_empty k mid.trees new.trees old.trees after (drop 1 office_schema.tables)
          (next_above old.schema (unplaced office_table)) others.1 here.1;
    }
