-- What the write of the version leaves of its table and of the others.
use Rattle.std.proofs.Common.{◌≡◌, inl, inr, ℕ, ℤ, ◌==◌, Bool, true, false, List, [], ◌∷◌, map, filter, drop, slice_get, length}
use Rattle.std.proofs.Common.{Option, Some, None, Ok, refl, sym, ap, subst, ◌∙◌}
use Rattle.std.specs.List.{filter_map, flat_map, list_any}
use Rattle.std.specs.List.Sorted.{IsPermutation}
use Rattle.std.proofs.lemmas.Bool.{cases_Bool, both_ways, eqb-true, or_parts}
use Rattle.sqlite.specs.declared.types.Value.TheVariants.{Int, Null}
use Rattle.sqlite.specs.Command.{Command}
use Rattle.sqlite.specs.Command.TheVariants as does
use Rattle.sqlite.specs.Does.{AtPlace, OnRows}
use Rattle.sqlite.specs.Effect.{Database, IsDatabase}
use Rattle.sqlite.specs.Listing.{understood}
use Rattle.sqlite.specs.Order.{Row}
use Rattle.sqlite.specs.Program.{overlay}
use Rattle.sqlite.specs.Query.{IsAnswer}
use Rattle.sqlite.specs.Rowids.TheVariants.{Given}
use Rattle.sqlite.specs.Rows.{Queried, Task, Written}
use Rattle.sqlite.specs.Schema.{Schema}
use Rattle.sqlite.specs.State.{State, Executes, ExecutesIn, Runs, mode_of}
use Rattle.sqlite.specs.Table.{Table}
use Rattle.sqlite.specs.Tree.{Trees, rowid}
use Rattle.sqlite.proofs.Callers.{IsPlain, command_of, one_step, runs_as, statement_of}
use Rattle.sqlite.specs.Kind.TheVariants.{Integer}
use Rattle.sqlite.specs.Term.{col}
use Rattle.sqlite_resolve.specs.declared.compiled.Compiled.{Compiled}
use Rattle.sqlite_rules.specs.Action.{deed_for, pairs, work_by, work_for}
use Rattle.sqlite_rules.specs.Calls.{ids_of}
use Rattle.sqlite_rules.specs.Edit.{Applies, Edit, are_fresh, edit_of, id_in, taken_by}
use Rattle.sqlite_rules.specs.Lists.{Has}
use Rattle.sqlite_rules.specs.declared.action.Deed.{Deed}
use Rattle.sqlite_rules.proofs.ListLemmas.{all_has}
use Rattle.sqlite_rules.proofs.PlaceLemmas.{given, named_parent}
use Rattle.sqlite_rules.proofs.TableLemmas.{int_is}
use Rattle.sqlite_rules.specs.Cast.{cast, cast_row}
use Rattle.sqlite_schema.specs.Names.{same_name, table_named}
use Rattle.sqlite_schema.specs.Rules.{ParentKey, parent_key}
use Rattle.sqlite_schema.specs.declared.program.Program.{Program}
use Rattle.sqlite_schema.specs.declared.schema.Keys.TheVariants.{Enforced}
use Rattle.sqlite_schema.specs.declared.schema.Reference.{Reference}
use Rattle.sqlite_trees.specs.Tree.{IsTable}
use Rattle.reg_tables.specs.Editing.{AreKeyed, altered}
use Rattle.reg_tables.specs.Making.{HasVersion}
use Rattle.reg_tables.specs.Selecting.{passes, shows}
use Rattle.reg_tables.specs.Version.{newest, number_of}
use Rattle.reg_tables.proofs.Library.Casts.{cast_int}
use Rattle.reg_tables.proofs.Library.KeyedRows.{left_is, put_is}
use Rattle.reg_tables.proofs.SelectLemmas.{answer_rows, as_kept}
use Rattle.reg_tables.specs.Having.{HasTable}
use Rattle.reg_tables.specs.Schema.{office_table}
use Rattle.reg_tables.specs.declared.texts.TheConstants.{CHANGE_VERSION}
use Rattle.reg_tables.proofs.InsertLemmas.{placed_so}
use Rattle.reg_tables.proofs.Library.Parts.{concluded, same_ok, went}
use Rattle.reg_migration.specs.Beside.{IsSole, RaisesVersion, refers_to}
use Rattle.reg_migration.proofs.ChangeBeside.{is_accepted, is_query_of, refuses, selection, terms, understands, whole_text}

-- ---- No foreign key acts, where none refers to the table and no other table is in its tree

-- the table of the office, by the tree in which it is
abbrev pub office_in : ℕ → Table
office_in k = record office_table { tree = k }

module _ (schema : Schema) (k : ℕ)
    (sole : (t : Table) → Has schema.tables t → t.tree ≡ k → t ≡ office_in k)
    (moves : List (Row × Row)) where
  -- the parent of a reference is not the table of the office
  elsewhere : (r : Reference) (key : ParentKey) → same_name office_table.name r.parent ≡ false
      → parent_key schema.tables r ≡ Some key → (key.0 == k) ≡ false
  elsewhere r key unlike is = elim (cases_Bool (key.0 == k)) [
    | inl same ↦
        let parent = named_parent schema.tables r key is in
        let here = sole parent.0 parent.1 (parent.2 ∙ eqb-true key.0 k same) in
        absurd (both_ways _ unlike (subst (λ (t : Table). same_name t.name r.parent ≡ true) here parent.3))
    | inr other ↦ other
  ]

  idle_by : (child : Table) (r : Reference) (deed : Option Deed) (key : Option ParentKey)
      → same_name office_table.name r.parent ≡ false → parent_key schema.tables r ≡ key
      → work_by 0 k moves child r deed key ≡ None
  idle_by child r None key unlike is = refl
  idle_by child r (Some deed) None unlike is = refl
  idle_by child r (Some deed) (Some key) unlike is = rw (elsewhere r key unlike is) refl

  idle_refs : (child : Table) (news : List Row) (olds : List Row) → moves ≡ pairs olds news
      → (refs : List Reference)
      → list_any (λ (r : Reference). same_name office_table.name r.parent) refs ≡ false
      → filter_map (work_for schema Enforced 0 k olds news child) refs ≡ []
  idle_refs child news olds are [] none = refl
  idle_refs child news olds are (r ∷ refs) none =
      let parts = or_parts _ _ none in
      let idle = subst (λ ms. work_by 0 k ms child r (deed_for Enforced (length news == 0) r)
      (parent_key schema.tables r) ≡ None) are
      (idle_by child r (deed_for Enforced (length news == 0) r) (parent_key schema.tables r) parts.0 refl) in
      rw idle (idle_refs child news olds are refs parts.1)

  idle_tables : (olds news : List Row) → moves ≡ pairs olds news → (tables : List Table)
      → list_any (refers_to office_table.name) tables ≡ false
      → flat_map (λ child. filter_map (work_for schema Enforced 0 k olds news child) child.references)
      tables ≡ []
  idle_tables olds news are [] none = refl
  idle_tables olds news are (t ∷ tables) none =
      let parts = or_parts _ _ none in
      rw (idle_refs t news olds are t.references parts.0) (idle_tables olds news are tables parts.1)

-- ---- The statement

ran_is : (sql : List ℕ) (params : Row) (old new : State) (count : ℕ)
    → Executes sql params old new (Ok count) → (c : Compiled) × (understood old.now.schema sql ≡ Ok c)
unfolding ExecutesIn
ran_is sql params old new count h = (h.0, h.1.is)

-- where the text is understood, it is carried out as this edit
module _ (old new : State) (params : Row) (count at k : ℕ)
    (named : table_named old.now.schema office_table.name ≡ Some at)
    (there : slice_get old.now.schema.tables at ≡ Some (office_in k))
    (ran : Executes CHANGE_VERSION.now params old new (Ok count))
    (sole : (t : Table) → Has old.now.schema.tables t → t.tree ≡ k → t ≡ office_in k)
    (unreferred : list_any (refers_to office_table.name) old.now.schema.tables ≡ false) where
  abbrev schema : Schema
  schema = old.now.schema

  abbrev db : Trees
  db = old.now.trees

  abbrev query : Program
  query = selection schema at k named there

  abbrev here : Task
  here = record {
    limit = old.step_limit;
    keys = Enforced;
    schema = schema;
    table = office_in k;
    params = params;
  }

  abbrev before : Database
  before = record { schema = schema; trees = db }

  abbrev edit_by : List Row → Edit
  edit_by rows = edit_of db (office_in k) (ids_of rows) Given 1 rows

  abbrev wrote : List Row → Trees → Written
  wrote rows next = record { trees = next; rows = (edit_by rows).news; last = None }

  -- the rows that it finds, and what it makes of them
  pub record Raises : Type 0 where
    pub rows : List Row
    pub next : Trees
    pub found : Queried old.step_limit before query params (Ok rows)
    pub applies : Applies schema Enforced db (edit_by rows) next
    pub after : new.now ≡ record { schema = schema; trees = next }
    pub sound : IsDatabase new.now

  module _ (is : understood schema CHANGE_VERSION.now ≡ Ok (whole_text schema at k named there)) where
    plain : IsPlain (understood schema CHANGE_VERSION.now)
    plain = rw is (refl, refl)

    abbrev command : Command
    command = does.Update at query

    runs : Runs old new None command (statement_of CHANGE_VERSION.now (understood schema CHANGE_VERSION.now))
        params count
    runs = runs_as CHANGE_VERSION.now params old new schema refl command (ap command_of is) plain count ran

    raises : Raises
    raises =
        let found = subst (λ o. AtPlace (λ (t : Table). OnRows (record here { table = t })
        (mode_of old) None command db) o (Ok (runs.tally, new.now))) there runs.changed in
        let done = went found in
        let asked = went done.1 in
        let edited = went asked.2 in
        let trees : done.0.trees ≡ edited.0 =
        ap (λ (w : Written). w.trees)
        (same_ok {a = done.0} {b = wrote asked.0 edited.0} edited.2) in
        let edit = edit_by asked.0 in
        let idle = idle_tables schema k sole (pairs (taken_by db edit) edit.news)
        (taken_by db edit) edit.news refl schema.tables unreferred in
        record {
          rows = asked.0;
          next = edited.0;
          found = asked.1;
          applies = one_step schema Enforced db edited.0 edit idle edited.1;
          after = concluded here (mode_of old) done.0 runs.tally new.now done.2
              ∙ ap (λ (trees : Trees). record { schema = schema; trees = trees }) trees;
          sound = runs.sound;
        }

  pub raised : Raises
  raised = elim (cases_Bool (is_accepted schema at k named there)) [
    | inl fits ↦ raises (understands schema at k named there fits)
    | inr unfit ↦ absurd (let e = sym (refuses schema at k named there unfit)
        ∙ (ran_is CHANGE_VERSION.now params old new count ran).1 in cc)
  ]

-- ---- What it leaves

-- the table of the office, but for its tree
there_is : (tables : Schema) (at : HasTable tables office_table) → at.table ≡ office_in at.table.tree
there_is tables at = ap (λ (t : Table). record t { tree = at.table.tree }) at.same

module _ (old new : State) (count : ℕ) (at : HasTable old.now.schema office_table)
    (sole : IsSole old.now.schema at)
    (ran : Executes CHANGE_VERSION.now (Int (number_of newest) ∷ []) old new (Ok count)) where
  abbrev n : ℤ
  n = number_of newest

  abbrev given_row : Row
  given_row = Int n ∷ []

  abbrev k : ℕ
  k = at.table.tree

  abbrev rows : List Row
  rows = old.now.trees k

  it : Raises old new given_row count at.at k at.named (at.there ∙ ap Some (there_is old.now.schema at)) ran
      (λ t there same. all_has (λ (u : Table). u.tree ≡ k → u ≡ at.table) old.now.schema.tables t sole.tree there same
      ∙ there_is old.now.schema at) sole.unreferred
  it = raised old new given_row count at.at k at.named (at.there ∙ ap Some (there_is old.now.schema at)) ran
      (λ t there same. all_has (λ (u : Table). u.tree ≡ k → u ≡ at.table) old.now.schema.tables t sole.tree there same
      ∙ there_is old.now.schema at) sole.unreferred

  abbrev by : Row → Row
  by = shows (col 1 0 ∷ col 0 0 ∷ []) given_row

  abbrev all_go : Row → Bool
  all_go = passes [] given_row

  found : IsPermutation (map (shows terms given_row) (filter all_go rows)) it.rows
  found = subst (λ rs. IsPermutation (map (shows terms given_row) (filter all_go rs)) it.rows)
      (as_kept old.now.trees k)
      (answer_rows k [] terms [] given_row (overlay old.now.trees []) it.rows
      (subst (λ q. IsAnswer q (overlay old.now.trees []) given_row it.rows)
      (is_query_of old.now.schema at.at k at.named (at.there ∙ ap Some (there_is old.now.schema at)))
      (it.found.answer Null)))

  module _ (keyed : AreKeyed rows) where
    stored : (r : Row) → Has rows r → cast_row (office_in k) (drop 1 (shows terms given_row r)) ≡ by r
    stored r there =
        let whole = int_is (rowid r) (keyed.whole r there) in
        let first : cast Integer (rowid r) ≡ rowid r =
        ap (cast Integer) whole ∙ cast_int (id_in (rowid r)) ∙ sym whole in
        λ i. first i ∷ cast_int n i ∷ []

    replaced : IsTable rows → it.next k ≡ map (altered all_go by) rows
    replaced up =
        let cast_source = λ (s : Row). cast_row (office_in k) (drop 1 s) in
        let edit = edit_of old.now.trees (office_in k) (ids_of it.rows) Given 1 it.rows in
        let fresh = subst (λ l. are_fresh l edit.news ≡ true)
        (left_is rows keyed all_go (shows terms given_row) (λ r. refl) it.rows found) it.applies.fresh in
        it.applies.rows
        ∙ put_is rows keyed all_go (shows terms given_row) (λ r. refl) it.rows found edit.news cast_source by
        (λ r. refl) (λ r there passed. stored r there) (given _ (map cast_source it.rows)) fresh up

    says : (m : ℤ) → HasVersion m rows → HasVersion n (new.now.trees k)
    says m version =
        let up = subst IsTable (sym version.only) (tt, tt) in
        record {
          row = by version.row;
          only = ap (λ (d : Database). d.trees k) it.after ∙ replaced up
              ∙ ap (map (altered all_go by)) version.only;
          says = refl;
        }

  pub raises_version : RaisesVersion old.now new.now at
  raises_version = record {
    kept = placed_so new.now.trees it.next old.now.trees k
        (λ t. ap (λ (d : Database). d.trees t) it.after) old.now.schema.tables it.applies.tables;
    version = λ m keyed version. says keyed m version;
  }
