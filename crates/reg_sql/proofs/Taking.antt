-- What an opening makes of a store, in each way that it can go.
use Rattle.std.proofs.Common.{◌≡◌, ℕ, ℤ, Bool, List, [], ◌∷◌, slice_get, take, inl, inr, true, Ok, Err, Result, refl, sym, ap, subst, ◌∙◌, arith}
use Rattle.std.specs.Prelude.{◌≢◌, IfErr, IfOk, IsTrue, Some}
use Rattle.std.specs.List.{AllByRecursion, position_from}
use Rattle.std.proofs.lemmas.List.{take-append-drop}
use Rattle.sqlite.specs.Effect.{Database}
use Rattle.sqlite.specs.Schema.{Schema}
use Rattle.sqlite.specs.Table.{Table}
use Rattle.sqlite.specs.Tree.{Trees}
use Rattle.sqlite.specs.State.{State, HasCleanDisk}
use Rattle.sqlite_schema.specs.Names.{same_name}
use Rattle.sqlite_trees.proofs.ListLemmas.{all-append}
use Rattle.reg_core.specs.WellKept.{WellKept}
use Rattle.reg_core.specs.World.{empty_world}
use Rattle.reg_keeper.specs.declared.keeper.Fault.{Fault as KeeperFault}
use Rattle.reg_tables.specs.Connection.{Holds, IsIdle, Works}
use Rattle.reg_tables.specs.Editing.{AreKeyed}
use Rattle.reg_tables.specs.Having.{AreFree, AreFreeLater, Extends, FindsTablesOf, GainsTables, HasTable, HasTables}
use Rattle.reg_tables.specs.Making.{HasCounter, IsBegunBeside, IsMigrated, no_schema}
use Rattle.reg_tables.specs.Schema.{office_schema, office_table}
use Rattle.reg_tables.specs.Selecting.{BeginsWith}
use Rattle.reg_tables.specs.Version.{later_than, newest, number_of, schema_of, table_count, tables_of}
use Rattle.reg_tables.specs.declared.version.Version.{Version}
use Rattle.reg_tables.specs.declared.version.Version.TheVariants.{First, Second, Third, Fourth}
use Rattle.reg_tables.proofs.HavingLemmas.{all_has, version_found}
use Rattle.reg_tables.proofs.Library.GrowingSchemas.{still_has}
use Rattle.reg_tables.proofs.PartLemmas.{part_before}
use Rattle.reg_tables.proofs.RestLemmas.{stays_held, stays_same}
use Rattle.reg_migration.specs.Beside.{IsSole, UpgradesBeside}
use Rattle.reg_statements.specs.Content.{IsStoredAs, content_at, content_of, world_in}
use Rattle.reg_statements.proofs.Migrated.{migrated_same, version_is}
use Rattle.reg_opening.specs.Opening.{FindsKind, HasVersionTables, ComesFirst, IsFoundAs, LeavesRoom, IsOfVersion, IsOurs, kind_of}
use Rattle.reg_opening.specs.Acts.{StandsBeside}
use Rattle.reg_opening.specs.declared.beside.Beside.{Beside}
use Rattle.reg_opening.proofs.Versions.{first_begins, schema_first}
use Rattle.reg_opening.specs.declared.flaw.Flaw.{Flaw}
use Rattle.reg_opening.specs.declared.kind.Found.{Found}
use Rattle.reg_opening.specs.declared.kind.Found.TheVariants as finding
use Rattle.reg_opening.specs.declared.kind.StoreKind.TheVariants as kinds
use Rattle.reg_sql.specs.Keeping.{KeepsBeside}
use Rattle.reg_sql.specs.Opening.{Brings, HasNoTables, IsAsItWas, IsRefused, IsTakenOver, TakesOver}
use Rattle.reg_sql.specs.declared.open.OpenFault.{OpenFault}
use Rattle.reg_sql.specs.declared.open.OpenFault.TheVariants as refusals

-- ---- A store that is refused

as_it_was : (old new : State) → IsIdle old → IsIdle new → (Works new → Works old)
    → (Works new → new.now ≡ old.now) → IsAsItWas old new
as_it_was old new idle rest worked same = record {
  worked = worked;
  mode = rest.autocommit ∙ sym idle.autocommit;
  now = same;
  committed = λ w. sym (rest.settled w) ∙ same w ∙ idle.settled (worked w);
}

module _ (fresh : Bool) (old new : State) (idle : IsIdle old) (rest : IsIdle new) where
  pub refused_over : (refusal : OpenFault) → (Works new → Works old)
      → (Works new → new.now ≡ old.now) → (Works new → IsRefused fresh old.now refusal)
      → TakesOver fresh old new (Err refusal)
  refused_over refusal worked same refused = record {
    worked = worked;
    keeps = tt;
    taken = λ w. tt;
    opened = λ h. tt;
    live = λ honest. tt;
    refused = λ auto w. refused w;
    unchanged = as_it_was old new idle rest worked same;
  }

-- ---- An office that is founded

-- an office's own names are taken in it, of whatever version it is
not_free : (v : Version) (schema : Schema) → schema ≡ schema_of v → ¬ AreFree schema
unfolding same_name
not_free First schema is free = let taken = (subst AreFree is free).0 in absurd (cc)
not_free _ schema is free = let taken = (subst AreFree is free).0 in absurd (cc)

-- so are they where they are found
finds_used : (v : Version) (schema : Schema) → FindsTablesOf v schema → ¬ AreFree schema
finds_used First schema finds is =
    let named = finds.0.has.named in let free = rw named at is.0 in absurd (cc)
finds_used _ schema finds is =
    let named = finds.0.has.named in let free = rw named at is.0 in absurd (cc)

module _ (old new : State) (idle : IsIdle old) (free : AreFree old.now.schema) where
  founded_taken : HasTables new.now.schema
      → (HasNoTables old.now → new.now.schema ≡ office_schema)
      → (new.now.schema ≡ office_schema → HasNoTables old.now)
      → (HasCounter old.now.schema → IsBegunBeside old.now new.now)
      → IsTakenOver true old.now new.now
  founded_taken has alone was beside = record {
    has = has;
    first = λ v tables begins. absurd (finds_used v old.now.schema tables.0 free);
    from = inr (inl (record { wanted = refl; free = free; beside = beside }));
    alone = λ stands. elim stands [
      | inl version ↦ absurd (not_free version.0 old.now.schema version.1 free)
      | inr none ↦ alone none
    ];
    was_alone = λ is. inr (was is);
  }

  pub founded_over : (result : Result Beside OpenFault) → IsIdle new → (Works new → Works old)
      → IfOk result (λ v. KeepsBeside v new)
      → (Works new → IfOk result (λ v. HasTables new.now.schema))
      → (Works new → IfOk result (λ v. HasNoTables old.now → new.now.schema ≡ office_schema))
      → (Holds new → IfOk result (λ v. HasNoTables old.now × (world_in new ≡ empty_world)))
      → (Works new → IfOk result (λ v. AreFree old.now.schema
      → HasCounter old.now.schema → IsBegunBeside old.now new.now))
      → (HasCleanDisk new → IfOk result (λ v. IsTrue new.is_open))
      → IfErr result (λ refusal. (given : KeeperFault) × (refusal ≡ refusals.Fault given))
      → (Works new → IfErr result (λ refusal. new.now ≡ old.now)) → TakesOver true old new result
  founded_over (Ok v) rest worked keeps has alone empty beside live fault same = record {
    worked = worked;
    keeps = keeps;
    taken = λ w. founded_taken (has w) (alone w)
        (λ is. (empty (record { works = w; tables = is })).0) (beside w free);
    opened = λ h. inr (refl, (empty h).0, (empty h).1);
    live = λ honest.
        let is_open = live honest.clean in
        ((worked (record { clean = honest.clean; is_open = is_open })).clean, λ was_open. is_open);
    refused = λ auto w. tt;
    unchanged = tt;
  }
  founded_over (Err e) rest worked keeps has alone empty beside live fault same =
      refused_over true old new idle rest e worked same
      (λ w. subst (IsRefused true old.now) (sym fault.1) tt)

-- ---- An office that is there

-- no schema is said to have the tables of two versions
one_version : (v u : Version) (schema : Schema) → FindsTablesOf v schema × AreFreeLater v schema
    → FindsTablesOf u schema × AreFreeLater u schema → u ≡ v
one_version First First schema a b = refl
one_version First _ schema a b =
    let named = b.0.1.1.1.1.1.1.1.1.1.1.0.has.named in let free = rw named at a.1.0 in absurd (cc)
one_version _ First schema a b =
    let named = a.0.1.1.1.1.1.1.1.1.1.1.0.has.named in let free = rw named at b.1.0 in absurd (cc)
one_version Second Second schema a b = refl
one_version Second _ schema a b =
    let named = b.0.1.1.1.1.1.1.1.1.1.1.1.1.0.has.named in
    let free = rw named at a.1.0 in absurd (cc)
one_version _ Second schema a b =
    let named = a.0.1.1.1.1.1.1.1.1.1.1.1.1.0.has.named in
    let free = rw named at b.1.0 in absurd (cc)
one_version Third Third schema a b = refl
one_version Third Fourth schema a b =
    let named = b.0.1.1.1.1.1.1.1.1.1.1.1.1.1.0.has.named in
    let free = rw named at a.1.0 in absurd (cc)
one_version Fourth Third schema a b =
    let named = a.0.1.1.1.1.1.1.1.1.1.1.1.1.1.0.has.named in
    let free = rw named at b.1.0 in absurd (cc)
one_version Fourth Fourth schema a b = refl

-- nor to have those of one, where it is that of another
only_version : (v u : Version) (schema : Schema) → schema ≡ schema_of u
    → FindsTablesOf v schema × AreFreeLater v schema → u ≡ v
only_version v u schema is tables = one_version v u schema tables (version_found u schema is)

-- tables that were there are there where others came
all_still : {n m : ℕ} {old new : Schema} (all : List Table) → Extends n m old new
    → AllByRecursion (HasTable old) all → AllByRecursion (HasTable new) all
all_still [] grows has = tt
all_still (t ∷ all) grows has = (still_has t grows has.0, all_still all grows has.1)

-- the tables that were there and those that came are an office's
brought : (v : Version) (old new : Schema) → FindsTablesOf v old
    → GainsTables (later_than v) old new → HasTables new
brought v old new finds gained =
    subst (AllByRecursion (HasTable new)) (take-append-drop (table_count v) office_schema.tables)
    (all-append (HasTable new) (tables_of v) (later_than v)
    (all_still (tables_of v) gained.extends (all_has old (tables_of v) finds)) gained.has)

none_there : (v : Version) (schema : Schema) → schema ≡ no_schema → ¬ FindsTablesOf v schema
none_there First schema is finds =
    let named = (subst (FindsTablesOf First) is finds).0.has.named in absurd (cc)
none_there v schema is finds =
    let named = (subst (FindsTablesOf v) is finds).0.has.named in absurd (cc)

-- ---- Where the tables of a version come first

office_named : same_name office_table.name office_table.name ≡ true
unfolding same_name
office_named = refl

-- the table of the office is in the first tree
first_tree : (schema : Schema) (tables : List Table) → schema.tables ≡ tables
    → take 1 tables ≡ office_table ∷ [] → (has : HasTable schema office_table) → has.table.tree ≡ 0
first_tree schema [] is front has = absurd (cc)
first_tree schema (t ∷ tables) is front has =
    let office : t ≡ office_table = cc in
    let is_office = λ (u : Table). same_name u.name office_table.name in
    let named : position_from is_office 0 schema.tables ≡ Some 0 =
    ap (position_from is_office 0) is
    ∙ ap (λ (s : Table). position_from is_office 0 (s ∷ tables)) office ∙ rw office_named refl in
    let places : Some 0 ≡ Some has.at = sym named ∙ has.named in
    let place : 0 ≡ has.at = cc in
    let both : Some t ≡ Some has.table =
    sym (ap (λ all. slice_get all 0) is) ∙ ap (slice_get schema.tables) place ∙ has.there in
    let same : t ≡ has.table = cc in
    ap (λ (u : Table). u.tree) (sym same ∙ office)

-- and its rows are known by their rowids
first_keyed : (v : Version) (trees : Trees)
    → AllByRecursion (λ (t : Table). AreKeyed (trees t.tree)) (tables_of v) → AreKeyed (trees 0)
first_keyed First trees all = all.0
first_keyed _ trees all = all.0

office_keyed : (v : Version) (db : Database) (has : HasTable db.schema office_table)
    → BeginsWith (table_count v) db.schema → ComesFirst v db → AreKeyed (db.trees has.table.tree)
office_keyed v db has begins comes =
    subst (λ k. AreKeyed (db.trees k))
    (sym (first_tree db.schema db.schema.tables refl (first_begins v 1 (omega arith) begins).tables has))
    (first_keyed v db.trees comes.keyed)

module _ (fresh : Bool) (old new : State) (idle : IsIdle old) {E : Type 0} (f : Found)
    (finds : FindsKind {E = E} old new (Ok f)) where
  -- what was found is told of the store as it was
  told : (g : Found) → f ≡ g → Works new → IsFoundAs old.now (kind_of g)
  told g is w = subst (λ f. IsFoundAs old.now (kind_of f)) is (finds.kind w)

  pub version_over : (n : ℤ) → f ≡ finding.OtherVersion n
      → TakesOver fresh old new (Err (refusals.Version n))
  version_over n is =
      refused_over fresh old new idle finds.rest (refusals.Version n) finds.stays.worked finds.stays.unchanged
      (λ w. told (finding.OtherVersion n) is w)

  pub not_ours_over : (flaw : Flaw) → f ≡ finding.NotOurs flaw → (fresh ≡ true → ¬ AreFree old.now.schema)
      → TakesOver fresh old new (Err refusals.NotOurs)
  not_ours_over flaw is taken =
      refused_over fresh old new idle finds.rest refusals.NotOurs finds.stays.worked finds.stays.unchanged
      (λ w.
      let none = told (finding.NotOurs flaw) is w in
      (none.0.0, none.0.1, taken, none.1))

  module _ (v : Version) (free : Beside) (is : f ≡ finding.Ours v free) where
    -- and it still is one
    pub found_still : Works new → IsFoundAs new.now (kinds.Ours v)
    found_still w =
        subst (λ (db : Database). IsFoundAs db (kinds.Ours v)) (sym (finds.stays.unchanged w))
        (told (finding.Ours v free) is w)

    -- its tables were there
    had : Works new → HasVersionTables v old.now
    had w = (told (finding.Ours v free) is w).0

    ours_was : Works new → old.now.schema ≡ schema_of v → IsOurs v old.now
    ours_was w alone = (told (finding.Ours v free) is w).1 alone

    free_was : Works new → old.now.schema ≡ schema_of v → StandsBeside (content_at v old.now) free
    free_was w alone = (subst (LeavesRoom old.now) is (finds.free w)) (schema_first v alone)

    -- its rows are an office's where its tables come first
    first_was : Works new → (u : Version) → HasVersionTables u old.now
        → BeginsWith (table_count u) old.now.schema → ComesFirst u old.now
    first_was w u tables =
        subst (λ (u : Version). BeginsWith (table_count u) old.now.schema → ComesFirst u old.now)
        (sym (one_version v u old.now.schema (had w) tables))
        (told (finding.Ours v free) is w).2

    -- and the row of the version says so
    says_was : Works new → IsOfVersion (number_of v) old.now
    says_was w = (told (finding.Ours v free) is w).3

  -- ---- Of the newest version

  module _ (free : Beside) (is : f ≡ finding.Ours newest free) where
    ours_at : Holds new → IsOurs newest new.now
    ours_at h = subst (IsOurs newest) (sym (stays_same finds.stays h))
        (ours_was newest free is h.works (stays_held finds.stays h).tables)

    ours_taken : Works new → IsTakenOver fresh old.now new.now
    ours_taken w =
        let same = finds.stays.unchanged w in
        let tables = had newest free is w in
        let has = all_has old.now.schema office_schema.tables tables.0 in
        record {
          has = subst (λ (db : Database). HasTables db.schema) (sym same) has;
          first = first_was newest free is w;
          from = inl (same, says_was newest free is w);
          alone = λ stands. elim stands [
            | inl version ↦
                ap (λ (db : Database). db.schema) same ∙ version.1
                ∙ ap schema_of (only_version newest version.0 old.now.schema version.1 tables)
            | inr none ↦ absurd (none_there newest old.now.schema none tables.0)
          ];
          was_alone = λ is. inl (newest, ap (λ (db : Database). db.schema) (sym same) ∙ is);
        }

    beside_at : (h : Holds new) → StandsBeside (world_in new) free
    beside_at h =
        subst (λ (db : Database). StandsBeside (content_of db) free) (sym (stays_same finds.stays h))
        (free_was newest free is h.works (stays_held finds.stays h).tables)

    ours_kept : KeepsBeside free new
    ours_kept = record {
      office = record {
        keeping = record { idle = finds.rest; stored = λ h. (ours_at h).0 };
        kept = λ h. (ours_at h).1;
        follows = λ h. (beside_at h).0;
      };
      counts = λ h. (beside_at h).1;
    }

    pub ours_over : TakesOver fresh old new (Ok free)
    ours_over = record {
      worked = finds.stays.worked;
      keeps = ours_kept;
      taken = ours_taken;
      opened = λ h. inl (
        newest,
        ours_was newest free is h.works (stays_held finds.stays h).tables,
        ap content_of (stays_same finds.stays h),
      );
      live = λ honest. (
        finds.endures.clean honest.clean,
        finds.endures.stays_open honest.clean honest.unfailed,
      );
      refused = λ auto w. tt;
      unchanged = tt;
    }

  -- ---- Of an older version

  module _ (v : Version) (free : Beside) (is : f ≡ finding.Ours v free) (older : v ≢ newest)
      (last : State) where
    pub older_over : (result : Result Beside OpenFault) → Brings v free new last result
        → TakesOver fresh old last result
    older_over (Err e) brings =
        refused_over fresh old last idle brings.rest e (λ w. finds.stays.worked (brings.worked w))
        (λ w. brings.unchanged w ∙ finds.stays.unchanged (brings.worked w))
        (λ w. subst (IsRefused fresh old.now) (sym brings.fault.1) tt)
    older_over (Ok kept) brings =
        let same = λ (w : Works last). finds.stays.unchanged (brings.worked w) in
        let before = λ (w : Works last) (alone : last.now.schema ≡ office_schema).
        part_before v old.now.schema last.now.schema (had v free is (brings.worked w)).0
        (subst (λ (db : Database). GainsTables (later_than v) db.schema last.now.schema) (same w)
        (brings.gained w)) alone in
        let migrated = λ (w : Works last) (alone : old.now.schema ≡ schema_of v).
        subst (λ (db : Database). IsStoredAs v db → IsMigrated v db last.now) (same w)
        (brings.migrated w) (ours_was v free is (brings.worked w) alone).0 in
        let stays = λ (h : Holds last).
        let alone = before h.works h.tables in
        migrated_same v old.now last.now (ours_was v free is (brings.worked h.works) alone).0
        (migrated h.works alone) in
        let beside = λ (h : Holds last). subst (λ w. StandsBeside w kept) (sym (stays h).1)
        (subst (StandsBeside (content_at v old.now)) (sym brings.free)
        (free_was v free is (brings.worked h.works) (before h.works h.tables))) in
        record {
          worked = λ w. finds.stays.worked (brings.worked w);
          keeps = record {
            office = record {
              keeping = record { idle = brings.rest; stored = λ h. (stays h).0 };
              kept = λ h. subst WellKept (sym (stays h).1)
                  (ours_was v free is (brings.worked h.works) (before h.works h.tables)).1;
              follows = λ h. (beside h).0;
            };
            counts = λ h. (beside h).1;
          };
          taken = λ w.
              let tables = had v free is (brings.worked w) in
              let says = says_was v free is (brings.worked w) in
              let beside = λ (counter : HasCounter old.now.schema) (sole : IsSole old.now.schema says.has).
              (subst (λ (db : Database). UpgradesBeside v db last.now) (same w)
              (brings.beside w)).beside says.has counter sole
              (version_is (number_of v) (old.now.trees says.has.table.tree) says.says) in
              let gained = subst (λ (db : Database).
              GainsTables (later_than v) db.schema last.now.schema) (same w) (brings.gained w) in
              record {
                has = brought v old.now.schema last.now.schema tables.0 gained;
                first = first_was v free is (brings.worked w);
                from = inr (inr (record {
                  version = v;
                  older = older;
                  says = says;
                  tables = tables;
                  beside = beside;
                  first = λ begins counter sole. (beside counter sole).version
                      (office_keyed v old.now says.has begins
                      (first_was v free is (brings.worked w) v tables begins));
                }));
                alone = λ stands. elim stands [
                  | inl version ↦
                      let is = migrated w (version.1
                      ∙ ap schema_of (only_version v version.0 old.now.schema version.1 tables)) in
                      is.office.schema
                  | inr none ↦ absurd (none_there v old.now.schema none tables.0)
                ];
                was_alone = λ is. inl (v, before w is);
              };
          opened = λ h. inl (
            v,
            ours_was v free is (brings.worked h.works) (before h.works h.tables),
            (stays h).1,
          );
          live = λ honest.
              let is_open = brings.live honest.clean in
              let worked = brings.worked (record { clean = honest.clean; is_open = is_open }) in
              (finds.endures.clean worked.clean, λ was_open. is_open);
          refused = λ auto w. tt;
          unchanged = tt;
        }
