-- The parts of a statement that finds rows of a table and edits them.
use Rattle.std.proofs.Common.{◌≡◌, ℕ, List, [], map, filter, slice_get, Option, Some, None}
use Rattle.std.proofs.Common.{Ok, false, sym, ap, subst}
use Rattle.std.specs.List.Sorted.{IsPermutation}
use Rattle.sqlite.specs.declared.types.Value.TheVariants.{Null}
use Rattle.sqlite.specs.declared.run.Mode.{Mode}
use Rattle.sqlite.specs.Order.{Row}
use Rattle.sqlite.specs.Table.{Table}
use Rattle.sqlite.specs.Tree.{Trees}
use Rattle.sqlite.specs.Term.{Term}
use Rattle.sqlite.specs.Program.{overlay}
use Rattle.sqlite.specs.Rowids.TheVariants.{Given}
use Rattle.sqlite.specs.Does.{Tally, OnTable, OnRows, AtPlace, WritesRows}
use Rattle.sqlite.specs.Rows.{Part, Then, Gives, Queried, Edited, Written, Task}
use Rattle.sqlite.specs.Effect.{Database}
use Rattle.sqlite.proofs.Callers.{one_step}
use Rattle.sqlite_schema.specs.declared.command.Command.{Command}
use Rattle.sqlite_schema.specs.declared.program.Program.{Program}
use Rattle.sqlite_schema.specs.declared.schema.Keys.TheVariants.{Enforced}
use Rattle.sqlite_rules.specs.Calls.{ids_of}
use Rattle.sqlite_rules.specs.Edit.{Edit, Applies, edit_of, taken_by}
use Rattle.reg_tables.specs.Schema.{office_schema}
use Rattle.reg_tables.specs.Selecting.{select_from, passes, shows}
use Rattle.reg_tables.proofs.SelectLemmas.{answer_rows, as_kept}
use Rattle.reg_tables.proofs.Library.QuietReferences.{quiet_works}
use Rattle.reg_tables.proofs.InsertLemmas.{quiet_office}
use Rattle.reg_tables.proofs.Library.Parts.{went, same_ok}

-- the query by which a statement finds the rows that it edits
abbrev pub finding : ℕ → List Term → List Term → Program
finding t tests project = record { lets = []; body = select_from t tests project [] }

abbrev pub office_at : Trees → Database
office_at db = record { schema = office_schema; trees = db }

abbrev pub task_on : Option ℕ → Row → Table → Task
task_on limit params table = record {
  limit = limit;
  keys = Enforced;
  schema = office_schema;
  table = table;
  params = params;
}

abbrev pub enforcing : Mode
enforcing = record { keys = Enforced; in_doubt = false; may_wait = false }

-- what a statement on a table wrote
pub wrote : (limit : Option ℕ) (params : Row) (db : Trees) (at : ℕ) (table : Table)
    (command : Command) (tally : Tally) (after : Database)
    → slice_get office_schema.tables at ≡ Some table
    → OnTable limit enforcing params (office_at db) at
    (λ task. OnRows task enforcing None command db) (Ok (tally, after))
    → (w : Written) × WritesRows (task_on limit params table) db command (Ok w)
    × (after ≡ office_at w.trees)
wrote limit params db at table command tally after slot does =
    let done = went (subst (λ o. AtPlace (λ (t : Table).
    OnRows (task_on limit params t) enforcing None command db) o (Ok (tally, after)))
    slot does) in
    (done.0, done.1, ap (λ (p : Tally × Database). p.1) (same_ok (went (went done.2).2).2))

-- the rows that were found, and the edit that they led to
pub record EditsFound (table : Table) (tests project : List Term) (params : Row) (from : ℕ)
    (sources : List Row → List Row) (db next : Trees) : Type 0 where
  pub found : List Row
  pub are : IsPermutation
      (map (shows project params) (filter (passes tests params) (db table.tree))) found
  pub applies : Applies office_schema Enforced db
      (edit_of db table (ids_of found) Given from (sources found)) next

abbrev written_as : Trees → List Row → Written
written_as next rows = record { trees = next; rows = rows; last = None }

-- the query of a statement, and then its edit
abbrev FindsAndEdits : Option ℕ → Program → Row → Trees → (List Row → Edit)
    → (List Row → List Row) → Part Written
FindsAndEdits limit q params db edit told =
    Then (Queried limit (office_at db) q params) (λ rows.
    Then (Edited office_schema Enforced db (edit rows)) (λ next.
    Gives (written_as next (told rows))))

pub edits_found : (limit : Option ℕ) (table : Table) (tests project : List Term) (params : Row)
    (from : ℕ) (sources told : List Row → List Row) (db : Trees) (w : Written)
    → FindsAndEdits limit (finding table.tree tests project) params db
    (λ rows. edit_of db table (ids_of rows) Given from (sources rows)) told (Ok w)
    → EditsFound table tests project params from sources db w.trees
edits_found limit table tests project params from sources told db w h =
    let given = went h in
    let written = went given.2 in
    let edit = edit_of db table (ids_of given.0) Given from (sources given.0) in
    let quiet = quiet_works office_schema Enforced table.tree (taken_by db edit) edit.news
    quiet_office in
    let trees : w.trees ≡ written.0 = ap (λ (it : Written). it.trees) (same_ok written.2) in
    let answer = answer_rows table.tree tests project [] params (overlay db []) given.0
    (given.1.answer Null) in
    record {
      found = given.0;
      are = subst (λ rows. IsPermutation
          (map (shows project params) (filter (passes tests params) rows)) given.0)
          (as_kept db table.tree) answer;
      applies = subst (Applies office_schema Enforced db edit) (sym trees)
          (one_step office_schema Enforced db written.0 edit quiet written.1);
    }

pub trees_after : (new : Database) (next : Trees) → new ≡ office_at next → (t : ℕ)
    → new.trees t ≡ next t
trees_after new next after t = ap (λ (d : Database). d.trees t) after
