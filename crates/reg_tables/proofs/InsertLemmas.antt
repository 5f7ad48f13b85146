-- What an INSERT of one row does to a table of an office whose rowid is no column.
use Rattle.std.proofs.Common.{◌≡◌, ◌≢◌, ℕ, ℤ, List, [], ◌∷◌, length, map, drop, fold}
use Rattle.std.proofs.Common.{◌+◌, ◌/◌, slice_get, Bool, true, false, not, ◌&&◌, ◌==◌, if◌then◌else◌}
use Rattle.std.proofs.Common.{Option, Some, None, Ok, Result, refl, sym, ap, subst, ◌∙◌}
use Rattle.std.specs.List.{AllByRecursion, filter_map, flat_map, list_all}
use Rattle.std.specs.List.Sorted.{IsPermutation}
use Rattle.std.proofs.lemmas.Bool.{and_parts, eqb-false, not-true}
use Rattle.sqlite.specs.declared.types.Value.TheVariants.{Null, Int}
use Rattle.sqlite.specs.Order.{Row}
use Rattle.sqlite.specs.Tree.{Trees, put_row}
use Rattle.sqlite.specs.Table.{Table}
use Rattle.sqlite.specs.Schema.{Schema}
use Rattle.sqlite_schema.specs.declared.schema.Keys.{Keys}
use Rattle.sqlite_schema.specs.declared.schema.Keys.TheVariants.{Enforced}
use Rattle.sqlite_schema.specs.declared.schema.Index.{Index}
use Rattle.sqlite_schema.specs.declared.schema.Reference.{Reference}
use Rattle.sqlite_schema.specs.Rules.{ParentKey, parent_key}
use Rattle.sqlite_rules.specs.declared.action.Deed.{Deed}
use Rattle.sqlite_rules.specs.Action.{Work, deed_for, work_by, work_for, works}
use Rattle.sqlite_rules.specs.Edit.{Edit, Applies, edit_of, next_rowid}
use Rattle.sqlite_rules.specs.Edit.{IsNoIndex, are_fresh, put_all, numbered}
use Rattle.sqlite.specs.Cast.{cast_row}
use Rattle.sqlite.specs.Rowids.{Rowids}
use Rattle.sqlite.specs.Rowids.TheVariants.{Chosen}
use Rattle.sqlite.specs.Term.{Term}
use Rattle.sqlite.specs.Source.{Source}
use Rattle.sqlite.specs.Source.TheVariants.{Values}
use Rattle.sqlite.specs.Command.TheVariants.{Insert}
use Rattle.sqlite.specs.Does.{AtPlace, OnRows}
use Rattle.sqlite.specs.Rows.{Written, Task, Part, Then, Gives, Edited, Inserts}
use Rattle.sqlite.specs.Rows.{Counts, stamped, higher, count_of, last_id, rowids_for}
use Rattle.sqlite.specs.Effect.{Database, IsSource, value_rows}
use Rattle.sqlite.specs.declared.error.Error.{Error}
use Rattle.sqlite.specs.State.{State, mode_of, Executes}
use Rattle.sqlite.specs.Listing.{understood}
use Rattle.sqlite.proofs.Callers.{IsPlain, command_of, runs_as, one_step}
use Rattle.reg_tables.specs.Schema.{office_schema}
use Rattle.reg_tables.specs.Inserting.{AddedRow, AddedTo}
use Rattle.reg_tables.proofs.Library.EachOf.{all_if, all_then}
use Rattle.reg_tables.proofs.Library.Parts.{chosen, concluded, same_ok, went}
use Rattle.reg_tables.proofs.Library.QuietReferences.{AreQuiet, quiet_tables}
use Rattle.reg_tables.proofs.Library.RowLists.{permutation-put_row}

pub quiet_office : AreQuiet office_schema.tables
quiet_office = quiet_tables office_schema.tables refl

pub apart_if : (t u : ℕ) → not (t == u) ≡ true → t ≢ u
apart_if t u e = eqb-false t u (not-true _ e)

-- the index has another tree
abbrev pub is_apart : ℕ → Index → Bool
is_apart t i = not (i.tree == t)

-- of a tree that is written out `refl` finds that no index has it
pub unindexed : (t : ℕ) → list_all (is_apart t) office_schema.indexes ≡ true
    → IsNoIndex office_schema t
unindexed t e =
    all_if (is_apart t) (λ i. i.tree ≢ t) office_schema.indexes e (λ i. apart_if i.tree t)

-- ---- Where no row goes, no foreign key acts

idle_work : (depth tree : ℕ) (child : Table) (ref : Reference) (deed : Option Deed)
    (key : Option ParentKey) → work_by depth tree [] child ref deed key ≡ None
idle_work depth tree child ref None key = refl
idle_work depth tree child ref (Some deed) None = refl
idle_work depth tree child ref (Some deed) (Some key) = never (key.0 == tree) _
  where
    never : (b : Bool) (w : Work) → (if b && false then Some w else None) ≡ None
    never true w = refl
    never false w = refl

module _ (schema : Schema) (keys : Keys) (tree : ℕ) (news : List Row) where
  idle_refs : (child : Table) (refs : List Reference)
      → filter_map (work_for schema keys 0 tree [] news child) refs ≡ []
  idle_refs child [] = refl
  idle_refs child (r ∷ refs) =
      rw (idle_work 0 tree child r (deed_for keys (length news == 0) r)
      (parent_key schema.tables r)) (idle_refs child refs)

  idle_tables : (tables : List Table) → flat_map (λ child.
      filter_map (work_for schema keys 0 tree [] news child) child.references) tables ≡ []
  idle_tables [] = refl
  idle_tables (t ∷ tables) = rw (idle_refs t t.references) (idle_tables tables)

  pub idle_works : works schema keys 0 tree [] news ≡ []
  idle_works = idle_tables schema.tables

-- ---- An INSERT, whatever tables there are

-- a table with no AUTOINCREMENT has no count
pub uncounts : (task : Task) (db : Trees) (counter : Option Row) (top : ℤ) (next : Trees)
    → task.table.is_counted ≡ false → Counts task db counter top (Ok next) → next ≡ db
uncounts task db counter top next e h =
    let plain : ◌≡◌ {A = Result Trees (Option Error)} (Ok next) (Ok db) = rw e at h in
    same_ok plain

-- the parts of an INSERT into a table that counts no rowids
module _ (schema : Schema) (limit : Option ℕ) (table : Table) (params : Row) (db : Trees)
    (plain : table.is_counted ≡ false) where
  abbrev task : Task
  task = record {
    limit = limit;
    keys = Enforced;
    schema = schema;
    table = table;
    params = params;
  }

  abbrev before : Database
  before = record { schema = schema; trees = db }

  abbrev edit_by : Rowids → List Row → Edit
  edit_by ids sources = edit_of db table [] ids 0 sources

  abbrev outcome : Edit → Trees → Written
  outcome edit next = record { trees = next; rows = edit.news; last = last_id edit.news }

  abbrev CountsOn : Option Row → Edit → Trees → Part Trees
  CountsOn counter edit mid = Counts task mid counter (fold higher (count_of counter) edit.news)

  abbrev Enters : Option Row → Edit → Part Written
  Enters counter edit = Then (Edited schema Enforced db edit)
      (λ mid. Then (CountsOn counter edit mid) (λ next. Gives (outcome edit next)))

  abbrev Numbers : List Row → Option Row → Part Written
  Numbers sources counter = Enters counter (edit_by (rowids_for table (count_of counter)) sources)

  entered : (counter : Option Row) (edit : Edit) (done : Written) → Enters counter edit (Ok done)
      → Edited schema Enforced db edit (Ok done.trees)
  entered counter edit done h =
      let written = went h in
      let mid = written.0 in
      let counted = went written.2 in
      let trees : mid ≡ done.trees =
      sym (ap (λ (it : Written). it.trees) (same_ok counted.2)
      ∙ uncounts task mid counter (fold higher (count_of counter) edit.news) counted.0 plain
      counted.1) in
      subst (λ t. Edited schema Enforced db edit (Ok t)) trees written.1

  -- the trees are those that the edit of the rows leaves
  inserted : (from : Source) (done : Written) → Inserts task from db (Ok done)
      → (sources : List Row) × IsSource before (stamped table params) from sources
      × Applies schema Enforced db (edit_by Chosen sources) done.trees
  inserted from done h =
      let given = went h in
      let sources = given.0 in
      let counter = went given.2 in
      let edit = edit_by Chosen sources in
      let numbered = subst (λ ids. Enters counter.0 (edit_by ids sources) (Ok done))
      (chosen table.is_counted (count_of counter.0) plain) counter.2 in
      let idle = idle_works schema Enforced table.tree edit.news in (
        sources,
        given.1,
        one_step schema Enforced db done.trees edit idle
            (entered counter.0 edit done numbered),
      )

-- an INSERT of one row of parameters, one for each column, into a table whose rowid is no column
pub record AddsTo (schema : Schema) (sql : List ℕ) (at : ℕ) (table : Table) (terms : List Term)
    (params : Row) : Type 0 where
  pub slot : slice_get schema.tables at ≡ Some table
  pub is : command_of (understood schema sql) ≡ Insert at (Values terms (length params + 1))
  pub plain : IsPlain (understood schema sql)
  pub counts : table.is_counted ≡ false
  pub source : value_rows (stamped table params) (length params + 1)
      (length terms / (length params + 1)) terms ≡ (Null ∷ params) ∷ []
  pub casts : (rows : List Row)
      → numbered Chosen rows (map (λ s. cast_row table (drop 0 s)) ((Null ∷ params) ∷ []))
      ≡ (Int (next_rowid rows) ∷ params) ∷ []

pub placed_so : (new done db : Trees) (k : ℕ) → ((t : ℕ) → new t ≡ done t) → (tables : List Table)
    → AllByRecursion (λ (t : Table). t.tree ≢ k → done t.tree ≡ db t.tree) tables
    → AllByRecursion (λ (t : Table). t.tree ≢ k → new t.tree ≡ db t.tree) tables
placed_so new done db k same tables all =
    all_then tables all (λ t stays other. same t.tree ∙ stays other)

-- so it is at the office's schema
abbrev pub Adds : List ℕ → ℕ → Table → List Term → Row → Type 0
Adds = AddsTo office_schema

module _ (schema : Schema) (sql : List ℕ) (at : ℕ) (table : Table) (terms : List Term)
    (params : Row) (a : AddsTo schema sql at table terms params) where
  abbrev from : Source
  from = Values terms (length params + 1)

  -- the row comes to the others of its table
  row_added : (db next : Trees) (sources : List Row)
      → IsSource (before schema None table params db a.counts) (stamped table params) from sources
      → Applies schema Enforced db
      (edit_by schema None table params db a.counts Chosen sources) next
      → IsPermutation ((Int (next_rowid (db table.tree)) ∷ params) ∷ db table.tree)
      (next table.tree)
  row_added db next sources given applies =
      let rows = db table.tree in
      let new_row = Int (next_rowid rows) ∷ params in
      let news : (edit_of db table [] Chosen 0 sources).news ≡ new_row ∷ [] =
      ap (λ all. (edit_of db table [] Chosen 0 all).news) (given.1 ∙ a.source)
      ∙ a.casts rows in
      let fresh = subst (λ xs. are_fresh rows xs ≡ true) news applies.fresh in
      let after : next table.tree ≡ put_row new_row rows =
      applies.rows ∙ ap (put_all rows) news in
      subst (IsPermutation (new_row ∷ rows)) (sym after)
      (permutation-put_row new_row rows (not-true _ (and_parts _ _ fresh).0))

  pub adds_to : (old new : State) (count : ℕ) → old.now.schema ≡ schema
      → Executes sql params old new (Ok count) → AddedTo schema table.tree params old.now new.now
  adds_to old new count has h =
      let db = old.now.trees in
      let w = runs_as sql params old new schema has (Insert at from) a.is a.plain count h in
      let here = task schema old.step_limit table params db a.counts in
      let does = subst (λ s. AtPlace (λ (t : Table). OnRows (record here { schema = s; table = t })
      (mode_of old) None (Insert at from) db) (slice_get s.tables at)
      (Ok (w.tally, new.now))) has w.changed in
      let found = subst (λ o. AtPlace (λ (t : Table). OnRows (record here { table = t })
      (mode_of old) None (Insert at from) db) o (Ok (w.tally, new.now))) a.slot does in
      let done = went found in
      let now = concluded here (mode_of old) done.0 w.tally new.now done.2 in
      let put = inserted schema old.step_limit table params db a.counts from done.0 done.1 in
      let place : (t : ℕ) → new.now.trees t ≡ done.0.trees t =
      λ t. ap (λ (d : Database). d.trees t) now in
      record {
        schema = ap (λ (d : Database). d.schema) now ∙ sym has;
        sound = w.sound;
        id = Int (next_rowid (db table.tree));
        rows = subst (IsPermutation _) (sym (place table.tree))
            (row_added db done.0.trees put.0 put.1 put.2);
        others = λ t other unindexed. place t ∙ put.2.others t other unindexed;
        beside = placed_so new.now.trees done.0.trees db table.tree place schema.tables
            put.2.tables;
      }

-- so it is in an office
pub adds : (sql : List ℕ) (at : ℕ) (table : Table) (terms : List Term) (params : Row)
    → Adds sql at table terms params → (old new : State) (count : ℕ)
    → old.now.schema ≡ office_schema → Executes sql params old new (Ok count)
    → AddedRow table.tree params old.now new.now
adds sql at table terms params a old new count has h =
    let it = adds_to office_schema sql at table terms params a old new count has h in
    record { schema = it.schema; sound = it.sound; id = it.id; rows = it.rows; others = it.others }
