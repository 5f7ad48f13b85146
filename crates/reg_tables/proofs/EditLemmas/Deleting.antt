-- What a DELETE does to the rows of a table.
use Rattle.std.proofs.Common.{◌≡◌, ℕ, List, [], ◌∷◌, not, slice_get, Some, None, Ok}
use Rattle.std.proofs.Common.{refl, sym, ap, subst, ◌∙◌}
use Rattle.sqlite.specs.Order.{Row}
use Rattle.sqlite.specs.Table.{Table}
use Rattle.sqlite.specs.Term.{Term, col}
use Rattle.sqlite.specs.Command.TheVariants.{Delete}
use Rattle.sqlite.specs.Does.{Does}
use Rattle.sqlite.specs.Effect.{Database}
use Rattle.sqlite.specs.Listing.{understood}
use Rattle.sqlite.specs.Rowids.TheVariants.{Given}
use Rattle.sqlite.specs.State.{State, Executes}
use Rattle.sqlite.proofs.Callers.{IsPlain, command_of, statement_of, runs_as}
use Rattle.sqlite_rules.specs.Calls.{ids_of}
use Rattle.sqlite_rules.specs.Edit.{edit_of, taken_by}
use Rattle.reg_tables.specs.Kinds.{WritesRows}
use Rattle.reg_tables.specs.Schema.{office_schema}
use Rattle.reg_tables.specs.Selecting.{passes, shows}
use Rattle.reg_tables.specs.Editing.{AreKeyed, DeletedRows}
use Rattle.reg_tables.proofs.Library.KeyedRows.{keyed-filter, left_is}
use Rattle.reg_tables.proofs.EditLemmas.Steps.{finding, enforcing, wrote, edits_found, trees_after}

-- the text deletes the rows of a table that pass the tests
pub record Deletes (sql : List ℕ) (at : ℕ) (table : Table) (tests : List Term) : Type 0 where
  pub slot : slice_get office_schema.tables at ≡ Some table
  pub is : command_of (understood office_schema sql)
      ≡ Delete at (finding table.tree tests (col 1 0 ∷ []))
  pub plain : IsPlain (understood office_schema sql)
  pub writes : WritesRows sql

pub deletes : (sql : List ℕ) (at : ℕ) (table : Table) (tests : List Term) (params : Row)
    (old new : State) (count : ℕ) → Deletes sql at table tests → old.now.schema ≡ office_schema
    → AreKeyed (old.now.trees table.tree) → Executes sql params old new (Ok count)
    → DeletedRows table.tree tests params old.now new.now
deletes sql at table tests params old new count a has keyed h =
    let db = old.now.trees in
    let id = col 1 0 ∷ [] in
    let command = Delete at (finding table.tree tests id) in
    let w = runs_as sql params old new office_schema has command a.is a.plain count h in
    let text = statement_of sql (understood office_schema sql) in
    let does = subst (λ s. Does old.step_limit enforcing params (record old.now { schema = s })
    text None command (Ok (w.tally, new.now))) has w.changed in
    let done = wrote old.step_limit params db at table command w.tally new.now a.slot does in
    let edit = λ (rows : List Row). edit_of db table (ids_of rows) Given 0 [] in
    let edits = edits_found old.step_limit table tests id params 0 (λ rows. [])
    (λ rows. taken_by db (edit rows)) db done.0 done.1 in
    let goes = passes tests params in
    let left = left_is (db table.tree) keyed goes (shows id params) (λ r. refl)
    edits.found edits.are in
    let trees = trees_after new.now done.0.trees done.2 in
    let rows = trees table.tree ∙ edits.applies.rows ∙ left in
    record {
      schema = ap (λ (d : Database). d.schema) done.2 ∙ sym has;
      sound = w.sound;
      rows = rows;
      keyed = subst AreKeyed (sym rows)
          (keyed-filter (λ row. not (goes row)) (db table.tree) keyed);
      others = λ t other unindexed. trees t ∙ edits.applies.others t other unindexed;
    }
