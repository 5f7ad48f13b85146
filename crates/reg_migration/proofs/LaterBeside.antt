-- The tables that a version lacks come beside other tables.
use Rattle.std.proofs.Common.{◌≡◌, ◌≢◌, ◌<◌, ◌≤◌, ℕ, Bool, false, ◌||◌, List, [], ◌∷◌, ◌++◌, slice_get}
use Rattle.std.proofs.Common.{refl, sym, ap, ap₂, subst, ◌∙◌, arith}
use Rattle.std.specs.List.{AllByRecursion, list_any, position_from}
use Rattle.std.proofs.lemmas.List.Folds.{list_any-append}
use Rattle.sqlite.specs.Effect.{Database}
use Rattle.sqlite.specs.Schema.{Schema}
use Rattle.sqlite.specs.Table.{Table}
use Rattle.sqlite_catalog.proofs.StepLemmas.{table_below}
use Rattle.sqlite_catalog.specs.Change.{created, next_tree}
use Rattle.sqlite_rules.specs.Lists.{Has}
use Rattle.sqlite_rules.proofs.ListLemmas.{all_from, all_has, has_got}
use Rattle.sqlite_schema.specs.Names.{same_name}
use Rattle.reg_tables.specs.Editing.{AreKeyed}
use Rattle.reg_tables.specs.Having.{HasTable, unplaced}
use Rattle.reg_tables.specs.Making.{AreCountless, HasCounter, HasRows, HasVersion, MakesEach}
use Rattle.reg_tables.specs.Making.{placed, with_tables}
use Rattle.reg_tables.specs.Schema.{office_table}
use Rattle.reg_tables.specs.Version.{below, later_than, number_of}
use Rattle.reg_tables.specs.declared.version.Version.{Version}
use Rattle.reg_tables.specs.declared.version.Version.TheVariants.{First}
use Rattle.reg_tables.proofs.BesideLemmas.{all_empty, held_low, next_above, none_high, tables_are}
use Rattle.reg_tables.proofs.Library.EachOf.{all_back, all_front, all_join}
use Rattle.reg_tables.proofs.Library.GrowingLists.{before_more, got_before}
use Rattle.reg_tables.proofs.MigrateLemmas.{later_defined, later_texts}
use Rattle.reg_migration.specs.Beside.{IsSole, IsUpgradedBeside, MakesLater, RaisesVersion, refers_to}

-- ---- The tables that come are above those that are there

placed_above : (n : ℕ) (schema : Schema) (tables : List Table) → n ≤ next_tree schema
    → AllByRecursion (λ (t : Table). n ≤ t.tree) (placed schema tables)
placed_above n schema [] high = tt
placed_above n schema (t ∷ tables) high =
    let more = next_above schema (unplaced t) in
    (high, placed_above n (created schema (unplaced t)) tables (omega (arith, high, more)))

placed_refers : (name : List ℕ) (schema : Schema) (tables : List Table)
    → list_any (refers_to name) (placed schema tables) ≡ list_any (refers_to name) tables
placed_refers name schema [] = refl
placed_refers name schema (t ∷ tables) =
    ap (λ b. refers_to name t || b) (placed_refers name (created schema (unplaced t)) tables)

-- ---- Those that a version lacks

later_countless : (v : Version) → AreCountless (later_than v)
later_countless First = refl
later_countless _ = refl

-- none of them refers to the table of the office
later_refers : (v : Version) → list_any (refers_to office_table.name) (later_than v) ≡ false
unfolding same_name
later_refers First = refl
later_refers _ = refl

-- ---- The rows

pub later_made_beside : (v : Version) (old new : Database) → MakesEach (later_texts v) old new
    → MakesLater v old new
later_made_beside v old new makes counter =
    let n = next_tree old.schema in
    (makes old.schema (later_than v) (below n old.trees) (later_defined v) counter (later_countless v)
    (all_empty n old.trees old.schema (later_than v) (omega arith))
    (record {
      has = refl;
      rows = all_from _ old.schema.tables
          (λ t there. sym (held_low n old.trees t.tree (table_below old.schema t there)));
    })).0

-- ---- Then the version is written

module _ (v : Version) (old mid new : Database) (at : HasTable old.schema office_table)
    (makes : MakesLater v old mid)
    (counter : HasCounter old.schema) (sole : IsSole old.schema at) where
  abbrev n : ℕ
  n = next_tree old.schema

  abbrev k : ℕ
  k = at.table.tree

  abbrev more : List Table
  more = placed old.schema (later_than v)

  low : k < n
  low = table_below old.schema at.table (has_got old.schema.tables at.at at.table at.there)

  made : HasRows (with_tables old.schema (later_than v)) (below n old.trees) mid
  made = makes counter

  tables : mid.schema.tables ≡ old.schema.tables ++ more
  tables = ap (λ (s : Schema). s.tables) made.has ∙ tables_are old.schema (later_than v)

  abbrev is_named : Table → Bool
  is_named t = same_name t.name office_table.name

  -- the table of the office is where it was
  pub there : HasTable mid.schema office_table
  there = record {
    at = at.at;
    table = at.table;
    named = ap (position_from is_named 0) tables
        ∙ before_more is_named old.schema.tables more 0 at.at at.named;
    there = ap (λ all. slice_get all at.at) tables
        ∙ got_before old.schema.tables more at.at at.table at.there;
    same = at.same;
  }

  above : AllByRecursion (λ (t : Table). n ≤ t.tree) more
  above = placed_above n old.schema (later_than v) (omega arith)

  pub still_sole : IsSole mid.schema there
  unfolding there
  still_sole = record {
    tree = subst (AllByRecursion (λ (t : Table). t.tree ≡ k → t ≡ at.table)) (sym tables)
        (all_join _ old.schema.tables more sole.tree
        (all_from _ more (λ t has same.
        let high = all_has (λ (u : Table). n ≤ u.tree) more t above has in
        let e = same in
        absurd (omega (arith, low, high, e)))));
    unreferred = ap (list_any (refers_to office_table.name)) tables
        ∙ list_any-append (refers_to office_table.name) old.schema.tables more
        ∙ ap₂ ◌||◌ sole.unreferred
        (placed_refers office_table.name old.schema (later_than v) ∙ later_refers v);
  }

  rows : AllByRecursion (λ (t : Table). mid.trees t.tree ≡ below n old.trees t.tree)
      (old.schema.tables ++ more)
  rows = subst (AllByRecursion (λ (t : Table). mid.trees t.tree ≡ below n old.trees t.tree))
      (tables_are old.schema (later_than v)) made.rows

  -- the tables that were there have the rows that they had before it was written
  was : (t : Table) → Has old.schema.tables t → mid.trees t.tree ≡ old.trees t.tree
  was t has =
      all_has _ old.schema.tables t (all_front _ old.schema.tables more rows) has
      ∙ held_low n old.trees t.tree (table_below old.schema t has)

  same_row : mid.trees k ≡ old.trees k
  same_row = was at.table (has_got old.schema.tables at.at at.table at.there)

  pub upgraded_beside : new.schema ≡ mid.schema → RaisesVersion mid new there
      → HasVersion (number_of v) (old.trees k) → IsUpgradedBeside v old new at
  unfolding there
  upgraded_beside defined raises said =
      let Kept = λ (t : Table). t.tree ≢ k → new.trees t.tree ≡ mid.trees t.tree in
      let kept = subst (AllByRecursion Kept) tables raises.kept in
      record {
        has = defined ∙ made.has;
        kept = all_from _ old.schema.tables (λ t has other.
            all_has Kept old.schema.tables t (all_front Kept old.schema.tables more kept) has other
            ∙ was t has);
        version = λ keyed. raises.version (number_of v) (subst AreKeyed (sym same_row) keyed)
            (subst (HasVersion (number_of v)) (sym same_row) said);
        empty = all_from _ more (λ t has.
            let high = all_has (λ (u : Table). n ≤ u.tree) more t above has in
            all_has Kept more t (all_back Kept old.schema.tables more kept) has
            (λ same. let e = same in absurd (omega (arith, low, high, e)))
            ∙ all_has _ more t (all_back _ old.schema.tables more rows) has
            ∙ none_high n old.trees t.tree high);
      }
