-- What an UPDATE does to the rows of a table.
use Rattle.std.proofs.Common.{◌≡◌, ℕ, List, ◌∷◌, map, drop, filter, not, slice_get, Bool, true, false}
use Rattle.std.proofs.Common.{Option, Some, None, is_some, Ok, refl, sym, ap, subst, ◌∙◌}
use Rattle.std.specs.List.{list_all}
use Rattle.std.specs.List.Sorted.{IsPermutation}
use Rattle.std.proofs.lemmas.Bool.{and_parts, cond_both, not-true}
use Rattle.sqlite.specs.Order.{Row}
use Rattle.sqlite.specs.Table.{Table}
use Rattle.sqlite.specs.Tree.{Trees, rowid}
use Rattle.sqlite.specs.Term.{Term, col}
use Rattle.sqlite.specs.Command.TheVariants.{Update}
use Rattle.sqlite.specs.Does.{Does}
use Rattle.sqlite.specs.Effect.{Database, IsDatabase}
use Rattle.sqlite.specs.Listing.{understood}
use Rattle.sqlite.specs.Rowids.TheVariants.{Given}
use Rattle.sqlite.specs.State.{State, Executes}
use Rattle.sqlite.proofs.Callers.{IsPlain, command_of, statement_of, runs_as}
use Rattle.sqlite_trees.specs.Tree.{IsTable}
use Rattle.sqlite_schema.specs.declared.schema.Constraint.TheVariants.{Datatype}
use Rattle.sqlite_rules.specs.Calls.{ids_of}
use Rattle.sqlite_rules.specs.Cast.{cast_row}
use Rattle.sqlite_rules.specs.Edit.{Edit, edit_of, are_fresh}
use Rattle.sqlite_rules.specs.Lists.{Has}
use Rattle.sqlite_rules.proofs.ListLemmas.{has_got, test_has}
use Rattle.sqlite_rules.proofs.PlaceLemmas.{given}
use Rattle.sqlite_rules.proofs.RuleLemmas.{keeps_at}
use Rattle.reg_tables.specs.Schema.{office_schema}
use Rattle.reg_tables.specs.Selecting.{passes, shows}
use Rattle.reg_tables.specs.Editing.{AreKeyed, ChangedRows, altered}
use Rattle.reg_tables.proofs.Library.Casts.{AreGiven, is_simple, cast_shown}
use Rattle.reg_tables.proofs.Library.KeyedRows.{keyed_permuted, keyed-map, left_is}
use Rattle.reg_tables.proofs.Library.KeyedRows.{put_moves, put_is}
use Rattle.reg_tables.proofs.EditLemmas.Steps.{finding, enforcing, wrote, EditsFound, edits_found}
use Rattle.reg_tables.proofs.EditLemmas.Steps.{trees_after, office_at}

-- The text changes the rows of a table that pass the tests, and each column is given its own
-- value or one of its type. The terms are those of the columns.
pub record Changes (sql : List ℕ) (at : ℕ) (table : Table) (tests project : List Term)
    (params : Row) : Type 0 where
  pub slot : slice_get office_schema.tables at ≡ Some table
  pub is : command_of (understood office_schema sql)
      ≡ Update at (finding table.tree tests (col 1 0 ∷ col 1 0 ∷ project))
  pub plain : IsPlain (understood office_schema sql)
  pub given : AreGiven 1 table.columns params project

is_missing : {X : Type 0} (o : Option X) → is_some o ≡ false → o ≡ None
is_missing None missing = refl
is_missing (Some x) missing = absurd (cc)

-- no table of an office has its rowid in a column
keyless : (table : Table) → Has office_schema.tables table → table.key ≡ None
keyless table listed =
    is_missing table.key (not-true (is_some table.key)
    (test_has (λ (t : Table). not (is_some t.key)) office_schema.tables table refl listed))

-- and each has simple columns
simple : (table : Table) → Has office_schema.tables table → list_all is_simple table.columns ≡ true
simple table =
    test_has (λ (t : Table). list_all is_simple t.columns) office_schema.tables table refl

-- a row, changed so, is stored as it is shown
stored_as_shown : (table : Table) (project : List Term) (params : Row) (db : Database)
    → Has office_schema.tables table
    → AreGiven 1 table.columns params project → db.schema ≡ office_schema → IsDatabase db
    → AreKeyed (db.trees table.tree) → (row : Row) → Has (db.trees table.tree) row
    → cast_row table (shows (col 1 0 ∷ project) params row) ≡ shows (col 1 0 ∷ project) params row
stored_as_shown table project params db listed given has sound keyed row there =
    let kept = keeps_at Datatype db.schema db.trees table row (sound.obeys.rules Datatype)
    (rw has listed) there in
    cast_shown params row table project (keyless table listed) (simple table listed) given (keyed.whole row there)
    (and_parts _ _ kept).0

-- the rows that were found are replaced
module _ (table : Table) (tests project : List Term) (params : Row) (db next : Trees)
    (keyed : AreKeyed (db table.tree)) (stored : (row : Row) → Has (db table.tree) row
    → cast_row table (shows (col 1 0 ∷ project) params row) ≡ shows (col 1 0 ∷ project) params row)
    (e : EditsFound table tests (col 1 0 ∷ col 1 0 ∷ project) params 1 (λ rows. rows) db next) where
  abbrev rows : List Row
  rows = db table.tree

  abbrev goes : Row → Bool
  goes = passes tests params

  abbrev shown : Row → Row
  shown = shows (col 1 0 ∷ col 1 0 ∷ project) params

  abbrev by : Row → Row
  by = shows (col 1 0 ∷ project) params

  abbrev edit : Edit
  edit = edit_of db table (ids_of e.found) Given 1 e.found

  abbrev cast : Row → Row
  cast s = cast_row table (drop 1 s)

  fresh : are_fresh (filter (λ row. not (goes row)) rows) edit.news ≡ true
  fresh = subst (λ l. are_fresh l edit.news ≡ true)
      (left_is rows keyed goes shown (λ r. refl) e.found e.are) e.applies.fresh

  rows_changed : IsPermutation (map (altered goes by) rows) (next table.tree)
  rows_changed = subst (IsPermutation (map (altered goes by) rows)) (sym e.applies.rows)
      (put_moves rows keyed goes shown (λ r. refl) e.found e.are edit.news cast by (λ r. refl)
      (λ r there passed. stored r there) (given _ (map cast e.found)) fresh)

  changed_in_place : IsTable rows → next table.tree ≡ map (altered goes by) rows
  changed_in_place up =
      e.applies.rows
      ∙ put_is rows keyed goes shown (λ r. refl) e.found e.are edit.news cast by (λ r. refl)
      (λ r there passed. stored r there) (given _ (map cast e.found)) fresh up

-- what was found and edited is changed, and each other table is as it was
pub changed_found : (table : Table) (tests project : List Term) (params : Row) (old new : Database)
    (next : Trees) → Has office_schema.tables table → AreGiven 1 table.columns params project
    → old.schema ≡ office_schema → IsDatabase old → AreKeyed (old.trees table.tree)
    → IsDatabase new → new ≡ office_at next
    → EditsFound table tests (col 1 0 ∷ col 1 0 ∷ project) params 1 (λ rows. rows) old.trees next
    → ChangedRows table.tree tests (col 1 0 ∷ project) params old new
changed_found table tests project params old new next listed given has sound keyed
    after is edits =
    let db = old.trees in
    let stored = stored_as_shown table project params old listed given has sound
    keyed in
    let goes = passes tests params in
    let by = shows (col 1 0 ∷ project) params in
    let trees = trees_after new next is in
    let wanted = map (altered goes by) (db table.tree) in
    let moved = subst (IsPermutation wanted) (sym (trees table.tree))
    (rows_changed table tests project params db next keyed stored edits) in
    let keeps = λ (r : Row). cond_both (goes r) (by r) r (λ x. rowid x ≡ rowid r) (λ e. refl)
    (λ e. refl) in
    record {
      schema = ap (λ (d : Database). d.schema) is ∙ sym has;
      sound = after;
      rows = moved;
      in_place = λ up. trees table.tree
          ∙ changed_in_place table tests project params db next keyed stored edits up;
      keyed = keyed_permuted wanted (new.trees table.tree) moved
          (keyed-map (altered goes by) keeps (db table.tree) keyed);
      others = λ t other unindexed. trees t ∙ edits.applies.others t other unindexed;
    }

pub changes : (sql : List ℕ) (at : ℕ) (table : Table) (tests project : List Term) (params : Row)
    (old new : State) (count : ℕ) → Changes sql at table tests project params
    → old.now.schema ≡ office_schema → IsDatabase old.now → AreKeyed (old.now.trees table.tree)
    → Executes sql params old new (Ok count)
    → ChangedRows table.tree tests (col 1 0 ∷ project) params old.now new.now
changes sql at table tests project params old new count a has sound keyed h =
    let db = old.now.trees in
    let terms = col 1 0 ∷ col 1 0 ∷ project in
    let command = Update at (finding table.tree tests terms) in
    let w = runs_as sql params old new office_schema has command a.is a.plain count h in
    let text = statement_of sql (understood office_schema sql) in
    let does = subst (λ s. Does old.step_limit enforcing params (record old.now { schema = s })
    text None command (Ok (w.tally, new.now))) has w.changed in
    let done = wrote old.step_limit params db at table command w.tally new.now a.slot does in
    let edit = λ (rows : List Row). edit_of db table (ids_of rows) Given 1 rows in
    let edits = edits_found old.step_limit table tests terms params 1 (λ rows. rows)
    (λ rows. (edit rows).news) db done.0 done.1 in
    changed_found table tests project params old.now new.now done.0.trees
    (has_got office_schema.tables at table a.slot) a.given has sound keyed w.sound
    done.2 edits
