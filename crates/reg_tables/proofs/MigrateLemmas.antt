-- What becomes of an office of an older version.
use Rattle.std.proofs.Common.{◌≡◌, ◌&&◌, ◌++◌, ℕ, ℤ, List, [], ◌∷◌, drop, Bool, true, not}
use Rattle.std.proofs.Common.{nat_lt, refl, sym, subst, ◌∙◌}
use Rattle.std.specs.List.{AllByRecursion, list_all}
use Rattle.std.specs.Fmt.{digits}
use Rattle.std.proofs.lemmas.Bool.{and_parts, not-true}
use Rattle.sqlite.specs.declared.types.Value.TheVariants.{Int}
use Rattle.sqlite.specs.Effect.{Database}
use Rattle.sqlite.specs.Schema.{Schema}
use Rattle.sqlite.specs.Table.{Table}
use Rattle.sqlite.specs.Term.{col}
use Rattle.sqlite.specs.Tree.{Trees}
use Rattle.sqlite.proofs.Callers.{one_permutation}
use Rattle.sqlite_catalog.specs.Change.{created, next_tree}
use Rattle.sqlite_schema.specs.Names.{same_name}
use Rattle.reg_tables.specs.Editing.{AreKeyed, ChangedRows, IsOffice, IsOfficeOf}
use Rattle.reg_tables.specs.Having.{AreDefined, AreNamed, unplaced}
use Rattle.reg_tables.specs.Making.{AreCountless, AreToBeEmpty, HasCounter, HasLater, HasRows, HasVersion}
use Rattle.reg_tables.specs.Making.{IsMigrated, IsRaised, MakesEach, with_tables}
use Rattle.reg_tables.specs.Schema.{office_schema, office_table, office_texts}
use Rattle.reg_tables.specs.Version.{below, end_of, later_than, newest, number_of, rows_of}
use Rattle.reg_tables.specs.Version.{schema_of, table_count, tables_of}
use Rattle.reg_tables.specs.declared.version.Version.{Version}
use Rattle.reg_tables.specs.declared.version.Version.TheVariants.{First}
use Rattle.reg_tables.proofs.DefineTexts.{all_defined, defined_drop}
use Rattle.reg_tables.proofs.EditLemmas.Tables.{keyed-nil, office_after_change}
use Rattle.reg_tables.proofs.InsertLemmas.{apart_if, unindexed}
use Rattle.reg_tables.proofs.Library.EachOf.{all_back, all_both, all_front, all_if}
use Rattle.reg_tables.proofs.Library.EachOf.{all_join, all_rest, all_tested, all_then}
use Rattle.reg_tables.proofs.MakeLemmas.{is_other}

-- ---- What is so of each version

abbrev is_below : ℕ → Table → Bool
is_below n t = nat_lt t.tree n

abbrev are_next : ℕ → Schema → List Table → Bool
are_next n schema [] = true
are_next n schema (t ∷ tables) =
    not (nat_lt (next_tree schema) n) && are_next n (created schema (unplaced t)) tables

record IsPart (v : Version) : Type 0 where
  all : office_schema.tables ≡ tables_of v ++ later_than v
  most : drop 1 office_schema.tables ≡ drop 1 (tables_of v) ++ later_than v
  made : with_tables (schema_of v) (later_than v) ≡ office_schema
  counter : HasCounter (schema_of v)
  later_countless : AreCountless (later_than v)
  low : list_all (is_below (end_of v)) (tables_of v) ≡ true
  high : list_all (λ t. not (is_below (end_of v) t)) (later_than v) ≡ true
  next : are_next (end_of v) (schema_of v) (later_than v) ≡ true

is_part : (v : Version) → IsPart v
unfolding digits
is_part First = record { all = refl; most = refl; made = refl; counter = refl; later_countless = refl; low = refl; high = refl; next = refl }
is_part _ = record { all = refl; most = refl; made = refl; counter = refl; later_countless = refl; low = refl; high = refl; next = refl }

pub later_named : (v : Version) → AreNamed (later_than v)
unfolding same_name
later_named First = refl
later_named _ = refl

-- the texts that make the tables that a version lacks
abbrev pub later_texts : Version → List (List ℕ)
later_texts v = drop (table_count v) office_texts

pub later_defined : (v : Version) → AreDefined (later_texts v) (later_than v)
later_defined v = defined_drop (table_count v) office_texts office_schema.tables all_defined

-- ---- The tables come

module _ (n : ℕ) (trees : Trees) where
  below_is : (t : Table) → is_below n t ≡ true → below n trees t.tree ≡ trees t.tree
  below_is t e = rw e refl

  above_is : (t : ℕ) → not (nat_lt t n) ≡ true → below n trees t ≡ []
  above_is t e = rw (not-true _ e) refl

  empty_next : (schema : Schema) (tables : List Table) → are_next n schema tables ≡ true
      → AreToBeEmpty (below n trees) schema tables
  empty_next schema [] e = tt
  empty_next schema (t ∷ tables) e =
      let both = and_parts _ _ e in
      (above_is (next_tree schema) both.0, empty_next (created schema (unplaced t)) tables both.1)

pub later_made : (v : Version) (old new : Database) → MakesEach (later_texts v) old new
    → IsOfficeOf v old → HasLater v old new
later_made v old new makes office =
    let part = is_part v in
    let n = end_of v in
    let low = all_tested (is_below n) (tables_of v) part.low in
    let high = all_tested (λ t. not (is_below n t)) (later_than v) part.high in
    let made = makes (schema_of v) (later_than v) (below n old.trees) (later_defined v)
    part.counter part.later_countless
    (empty_next n old.trees (schema_of v) (later_than v) part.next)
    (record { has = office.schema; rows = all_then (tables_of v) low (λ t e. sym (below_is n old.trees t e)) }) in
    let has = subst (λ s. HasRows s (below n old.trees) new) part.made made.0 in
    let P = λ (t : Table). new.trees t.tree ≡ below n old.trees t.tree in
    let rows = subst (AllByRecursion P) part.all has.rows in
    let kept : AllByRecursion (λ (t : Table). new.trees t.tree ≡ old.trees t.tree) (tables_of v) =
    all_both (tables_of v) low (all_front P (tables_of v) (later_than v) rows)
    (λ t e is. is ∙ below_is n old.trees t e) in
    let empty : AllByRecursion (λ (t : Table). new.trees t.tree ≡ []) (later_than v) =
    all_both (later_than v) high (all_back P (tables_of v) (later_than v) rows)
    (λ t e is. is ∙ above_is n old.trees t.tree e) in
    let K = λ (t : Table). AreKeyed (new.trees t.tree) in
    record {
      office = record {
        schema = has.has;
        sound = made.1 office.sound;
        tables = subst (AllByRecursion K) (sym part.all)
            (all_join K (tables_of v) (later_than v)
            (all_both (tables_of v) kept office.tables (λ t is. subst AreKeyed (sym is)))
            (all_then (later_than v) empty (λ t is. subst AreKeyed (sym is) keyed-nil)));
      };
      kept = kept;
      empty = empty;
    }

-- ---- The version is written

module _ (old new : Database) (n m : ℤ)
    (changed : ChangedRows 0 [] (col 1 0 ∷ col 0 0 ∷ []) (Int n ∷ []) old new) where
  stays : (t : Table) → is_other t ≡ true → new.trees t.tree ≡ old.trees t.tree
  stays t other =
      let is = and_parts _ _ other in
      changed.others t.tree (apart_if t.tree office_table.tree is.0) (unindexed t.tree is.1)

  one_row : HasVersion m (old.trees office_table.tree)
      → HasVersion n (new.trees office_table.tree)
  one_row version = record {
    row = _;
    only = one_permutation _ (new.trees office_table.tree)
        (rw version.only at changed.rows);
    says = refl;
  }

pub raised : (m : ℤ) (old new : Database)
    → ChangedRows 0 [] (col 1 0 ∷ col 0 0 ∷ []) (Int (number_of newest) ∷ []) old new
    → IsOffice old → HasVersion m (old.trees office_table.tree) → IsRaised old new
raised m old new changed office version = record {
  office = office_after_change 0 _ _ old new office changed;
  version = one_row old new (number_of newest) m changed version;
  others = all_if is_other (λ t. new.trees t.tree ≡ old.trees t.tree) (drop 1 office_schema.tables) refl
      (stays old new (number_of newest) m changed);
}

-- ---- Both

-- the row of the office is as it was before the version is written
pub version_kept : (v : Version) (old mid : Database) → HasLater v old mid
    → HasVersion (number_of v) (old.trees office_table.tree)
    → HasVersion (number_of v) (mid.trees office_table.tree)
version_kept First old mid has version = rw has.kept.0 version
version_kept _ old mid has version = rw has.kept.0 version

pub migrated : (v : Version) (old mid new : Database) → HasLater v old mid → IsRaised mid new
    → IsMigrated v old new
migrated v old mid new has is =
    let P = λ (t : Table). new.trees t.tree ≡ mid.trees t.tree in
    let others = subst (AllByRecursion P) (is_part v).most is.others in
    record {
      office = is.office;
      version = is.version;
      kept = all_both (drop 1 (tables_of v)) (all_rest _ (tables_of v) has.kept)
          (all_front P (drop 1 (tables_of v)) (later_than v) others) (λ t was same. same ∙ was);
      empty = all_both (later_than v) has.empty
          (all_back P (drop 1 (tables_of v)) (later_than v) others) (λ t was same. same ∙ was);
    }

-- each table but the office's has the rows of the older office
pub rows_migrated : (v : Version) (old new : Database) → IsMigrated v old new
    → AllByRecursion (λ t. new.trees t.tree ≡ rows_of v old.trees t.tree)
    (drop 1 office_schema.tables)
rows_migrated v old new is =
    let part = is_part v in
    let P = λ (t : Table). new.trees t.tree ≡ rows_of v old.trees t.tree in
    let low = all_tested (is_below (end_of v)) (tables_of v) part.low in
    let high = all_tested (λ t. not (is_below (end_of v) t)) (later_than v) part.high in
    subst (AllByRecursion P) (sym part.most)
    (all_join P (drop 1 (tables_of v)) (later_than v)
    (all_both (drop 1 (tables_of v)) (all_rest _ (tables_of v) low) is.kept
    (λ t e same. same ∙ sym (below_is (end_of v) old.trees t e)))
    (all_both (later_than v) high is.empty
    (λ t e none. none ∙ sym (above_is (end_of v) old.trees t.tree e))))
