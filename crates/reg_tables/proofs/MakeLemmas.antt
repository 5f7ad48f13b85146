-- What CREATE TABLE texts make, one after the other.
use Rattle.std.proofs.Common.{◌≡◌, ◌⊎◌, inr, ◌≤◌, ℕ, List, [], ◌∷◌, ◌++◌, drop, Bool, true, false}
use Rattle.std.proofs.Common.{not, ◌==◌, ◌&&◌, Ok, Err, Result, OnOk, inl, Option, Some, None, codes, is_some, slice_get, option_and_then}
use Rattle.std.proofs.Common.{refl, sym, subst, ◌∙◌, arith}
use Rattle.std.specs.List.{list_all, list_any, position_from}
use Rattle.std.specs.List.Sorted.{IsPermutation}
use Rattle.std.proofs.lemmas.Bool.{and_parts, cases_Bool, not-false, or_parts}
use Rattle.std.proofs.lemmas.List.Folds.{list_any-append}
use Rattle.std.specs.Fmt.{digits}
use Rattle.sqlite.specs.Tree.{Trees}
use Rattle.sqlite.specs.Table.{Table}
use Rattle.sqlite.specs.Schema.{Schema}
use Rattle.sqlite.specs.State.{State, HasCleanDisk, KeepsCommit}
use Rattle.sqlite_catalog.specs.Change.{created, next_tree}
use Rattle.sqlite_schema.specs.Names.{same_name, table_named}
use Rattle.sqlite_trees.specs.View.{doubt}
use Rattle.sqlite.specs.Rows.{sequence}
use Rattle.sqlite.specs.Effect.{Database}
use Rattle.sqlite.proofs.Callers.{one_permutation}
use Rattle.reg_tables.specs.Schema.{office_table, office_schema, office_texts}
use Rattle.reg_tables.specs.Connection.{WentOn}
use Rattle.reg_tables.specs.Having.{GainsEach, GainsOne, unplaced}
use Rattle.reg_tables.specs.Inside.{GoesInside}
use Rattle.reg_tables.specs.Making.{AreToBeEmpty, HasCounter, HasRows, IsBlank, IsFounded}
use Rattle.reg_tables.specs.Making.{IsMade, MakesEach, MakesOne, no_schema, version_row, with_tables}
use Rattle.reg_tables.specs.Editing.{IsOffice}
use Rattle.reg_tables.specs.Inserting.{AddedRow}
use Rattle.reg_tables.proofs.DefineTexts.{all_countless, all_defined}
use Rattle.reg_tables.proofs.Library.EachOf.{all_both, all_join, all_tested}
use Rattle.reg_tables.proofs.Library.GrowingLists.{before_more, got_before}
use Rattle.reg_tables.proofs.Library.GrowingSchemas.{gains_each}
use Rattle.reg_tables.proofs.InsertLemmas.{apart_if, unindexed}

pub on_ok : {A E : Type 0} {P Q : Type 0} (r : Result A E) → (P → Q) → OnOk r P → OnOk r Q
on_ok (Ok a) f p = f p
on_ok (Err e) f p = tt

pub on_all : {A E : Type 0} {P Q R S : Type 0} (r : Result A E) → (P → Q → R → S) → OnOk r P
    → OnOk r Q → OnOk r R → OnOk r S
on_all (Ok a) f p q s = f p q s
on_all (Err e) f p q s = tt

-- ---- The table that counts rowids

module _ (schema : Schema) (name : List ℕ) where
  abbrev found : Option ℕ → Option Table
  found = option_and_then (slice_get schema.tables)

  -- the table of a name is there
  there_named : is_some (found (table_named schema name)) ≡ true
      → (at : ℕ) × (t : Table) × (table_named schema name ≡ Some at)
      × (slice_get schema.tables at ≡ Some t)
  there_named = go (table_named schema name) refl
    where
      at_place : (at : ℕ) (o : Option Table) → table_named schema name ≡ Some at
          → slice_get schema.tables at ≡ o → is_some o ≡ true
          → (at : ℕ) × (t : Table) × (table_named schema name ≡ Some at)
          × (slice_get schema.tables at ≡ Some t)
      at_place at None named there some = absurd (cc)
      at_place at (Some t) named there some = (at, t, named, there)

      go : (o : Option ℕ) → table_named schema name ≡ o → is_some (found o) ≡ true
          → (at : ℕ) × (t : Table) × (table_named schema name ≡ Some at)
          × (slice_get schema.tables at ≡ Some t)
      go None named some = absurd (cc)
      go (Some at) named some = at_place at (slice_get schema.tables at) named refl some

  -- and stays where others come
  still_named : (more : List Table) → is_some (found (table_named schema name)) ≡ true
      → is_some (option_and_then (slice_get (schema.tables ++ more))
      (position_from (λ (t : Table). same_name t.name name) 0 (schema.tables ++ more))) ≡ true
  still_named more some =
      let it = there_named some in
      rw (
        before_more (λ (t : Table). same_name t.name name) schema.tables more 0 it.0 it.2,
        got_before schema.tables more it.0 it.1 it.3,
      ) refl

never_both : (b c : Bool) → c ≡ true → (b && not c) ≡ false
never_both true c is = rw is refl
never_both false c is = refl

-- a table that counts no rowids needs no other
pub counter_stays : (schema : Schema) (table : Table) → HasCounter schema
    → table.is_counted ≡ false → HasCounter (created schema table)
counter_stays schema table has uncounted =
    let new : Table = record table { tree = next_tree schema } in
    let counts = λ (t : Table). t.is_counted in
    elim (cases_Bool (list_any counts schema.tables)) [
      | inl some ↦
          let seen : not (is_some (sequence schema)) ≡ false = rw some at has in
          never_both _ _ (still_named schema (codes "sqlite_sequence") (new ∷ [])
          (not-false _ seen))
      | inr none ↦ rw (list_any-append counts schema.tables (new ∷ []), none, uncounted) refl
    ]

-- a table comes to those whose rows are known
has_more : (schema : Schema) (table : Table) (held : Trees) (old new : Database)
    → IsMade schema table old new → held (next_tree schema) ≡ [] → HasRows schema held old
    → HasRows (created schema table) held new
has_more schema table held old new made empty has = record {
  has = made.has;
  rows = all_join (λ t. new.trees t.tree ≡ held t.tree) schema.tables
      (record table { tree = next_tree schema } ∷ [])
      (all_both schema.tables made.others has.rows (λ t kept rows. kept ∙ rows))
      (made.empty ∙ sym empty, tt);
}

-- nothing is held where all is empty
pub empty_next : (schema : Schema) (tables : List Table) → AreToBeEmpty (λ _. []) schema tables
empty_next schema [] = tt
empty_next schema (t ∷ tables) = (refl, empty_next (created schema (unplaced t)) tables)

pub none_made : (db : Database) → MakesEach [] db db
none_made db schema [] held defined none uncounted empty has = (has, λ sound. sound)
none_made db schema (t ∷ tables) held defined none uncounted empty has = absurd defined

-- what comes by a text and what comes by those after it
made_each : (text : List ℕ) (texts : List (List ℕ)) (a b c : Database) → MakesOne text a b
    → MakesEach texts b c → MakesEach (text ∷ texts) a c
made_each text texts a b c one each schema [] held defined none uncounted empty has =
    absurd defined
made_each text texts a b c one each schema (t ∷ tables) held defined none uncounted empty has =
    let parts = or_parts t.is_counted (list_any (λ (t : Table). t.is_counted) tables) uncounted in
    let made = one schema t defined.0 none parts.0 has.has in
    let all = each (created schema (unplaced t)) tables held defined.1
    (counter_stays schema (unplaced t) none parts.0) parts.1 empty.1
    (has_more schema (unplaced t) held a b made empty.0 has) in
    (all.0, λ sound. all.1 made.sound)

-- ---- The loop over the texts

-- Some of the texts were run. What the others make is then all that is made.
pub record GoesOn (all texts : List (List ℕ)) (old new : State) : Type 0 where
  pub clean : doubt old.is_clean ≤ doubt new.is_clean
  pub kept : HasCleanDisk new → KeepsCommit old new
  pub went : HasCleanDisk new → (texts ≡ all) ⊎ WentOn old new
  pub made : HasCleanDisk new → (last : Database) → MakesEach texts new.now last
      → MakesEach all old.now last
  pub gained : HasCleanDisk new → (last : Schema) → GainsEach texts new.now.schema last
      → GainsEach all old.now.schema last

module _ {E : Type 0} (all : List (List ℕ)) (old mid new : State) (result : Result (Unit {0}) E)
    (here : GoesInside mid new result) where
  was_clean : HasCleanDisk new → HasCleanDisk mid
  was_clean clean = let less = here.clean in omega (arith, clean, less)

  kept_then : {texts : List (List ℕ)} → GoesOn all texts old mid → HasCleanDisk new
      → KeepsCommit old new
  kept_then on clean =
      let first = on.kept (was_clean clean) in
      let last = here.kept clean in
      record {
        was_open = λ is_open. first.was_open (last.was_open is_open);
        committed = λ is_open. last.committed is_open ∙ first.committed (last.was_open is_open);
      }

  went_then : {texts : List (List ℕ)} → GoesOn all texts old mid → HasCleanDisk new
      → WentOn mid new → WentOn old new
  went_then on clean went =
      let first = on.kept (was_clean clean) in
      record {
        was_open = first.was_open went.was_open;
        is_open = went.is_open;
        committed = went.committed ∙ first.committed went.was_open;
        live = went.live;
      }

  goes_to : {texts : List (List ℕ)} → GoesOn all texts old mid → GoesInside old new result
  goes_to on = record {
    clean = let less = on.clean in let more = here.clean in omega (arith, less, more);
    kept = kept_then on;
    went = λ clean. on_ok result (went_then on clean) (here.went clean);
  }

module _ {E : Type 0} (all texts : List (List ℕ)) (text : List ℕ) (old mid new : State)
    (here : GoesInside {E = E} mid new (Ok (tt {0}))) where
  -- after one text more
  pub goes_more : GoesOn all (text ∷ texts) old mid
      → (HasCleanDisk new → MakesOne text mid.now new.now)
      → (HasCleanDisk new → GainsOne text mid.now.schema new.now.schema)
      → GoesOn all texts old new
  goes_more on made gained =
      let through = goes_to all old mid new (Ok (tt {0})) here on in
      let was = λ (clean : HasCleanDisk new).
      let less = here.clean in
      let is : HasCleanDisk mid = omega (arith, clean, less) in
      is in
      record {
        clean = through.clean;
        kept = through.kept;
        went = λ clean. inr (through.went clean);
        made = λ clean last makes. on.made (was clean) last
            (made_each text texts mid.now new.now last (made clean) makes);
        gained = λ clean last gains. on.gained (was clean) last
            (gains_each text texts mid.now.schema new.now.schema last (gained clean) gains);
      }

-- ---- An office

abbrev pub is_other : Table → Bool
is_other t = not (t.tree == office_table.tree)
    && list_all (λ i. not (i.tree == t.tree)) office_schema.indexes

module _ (old new : Database) (added : AddedRow office_table.tree version_row old new) where
  other_empty : (t : Table) → is_other t ≡ true → old.trees t.tree ≡ [] → new.trees t.tree ≡ []
  other_empty t other empty =
      let is = and_parts _ _ other in
      added.others t.tree (apart_if t.tree office_table.tree is.0) (unindexed t.tree is.1) ∙ empty

  -- the row of the version comes to tables that are all empty
  pub founded : IsOffice new → IsBlank office_schema old → IsFounded new
  founded office blank = record {
    office = office;
    version = record {
      row = added.id ∷ version_row;
      only = one_permutation (added.id ∷ version_row) (new.trees office_table.tree)
          (subst (λ rows. IsPermutation ((added.id ∷ version_row) ∷ rows)
          (new.trees office_table.tree)) blank.empty.0 added.rows);
      says = refl;
    };
    empty = all_both {P = λ t. is_other t ≡ true} {Q = λ t. old.trees t.tree ≡ []}
        {R = λ t. new.trees t.tree ≡ []} (drop 1 office_schema.tables)
        (all_tested is_other (drop 1 office_schema.tables) refl) blank.empty.1 other_empty;
  }

-- all tables come to a store without one
pub all_made : with_tables no_schema office_schema.tables ≡ office_schema
unfolding digits
all_made = refl

pub blank_made : (old new : Database) → MakesEach office_texts old new → IsBlank no_schema old
    → IsBlank office_schema new
blank_made old new makes blank =
    let made = (makes no_schema office_schema.tables (λ _. []) all_defined refl all_countless
    (empty_next no_schema office_schema.tables) (record { has = blank.has; rows = tt })).0 in
    subst (λ s. IsBlank s new) all_made (record { has = made.has; empty = made.rows })
