-- An INSERT keeps the rows of each table by rowids.
use Rattle.std.proofs.Common.{◌≡◌, ℕ, List, [], false, slice_get, Option, Some, None, fold}
use Rattle.std.proofs.Common.{Ok, sym, ap, subst, ◌∙◌}
use Rattle.sqlite.specs.Command.TheVariants.{Insert}
use Rattle.sqlite.specs.Does.{Does}
use Rattle.sqlite.specs.Effect.{Database}
use Rattle.sqlite.specs.Listing.{understood}
use Rattle.sqlite.specs.Order.{Row}
use Rattle.sqlite.specs.Rows.{Written, Inserts, rowids_for, count_of, higher}
use Rattle.sqlite.specs.State.{State, Executes}
use Rattle.sqlite.specs.Table.{Table}
use Rattle.sqlite.specs.Tree.{Trees}
use Rattle.sqlite.proofs.Callers.{IsPlain, command_of, statement_of, runs_as, one_step}
use Rattle.sqlite_schema.specs.declared.command.Source.{Source}
use Rattle.sqlite_schema.specs.declared.schema.Keys.TheVariants.{Enforced}
use Rattle.sqlite_rules.specs.Edit.{edit_of, taken_by}
use Rattle.reg_tables.specs.Schema.{office_schema}
use Rattle.reg_tables.specs.Editing.{AreTables}
use Rattle.reg_tables.proofs.Library.QuietReferences.{quiet_works}
use Rattle.reg_tables.proofs.InsertLemmas.{quiet_office, uncounts}
use Rattle.reg_tables.proofs.Library.Parts.{went, same_ok}
use Rattle.reg_tables.proofs.EditLemmas.Steps.{enforcing, task_on, wrote}
use Rattle.reg_tables.proofs.EditLemmas.Tables.{tables_after}

kept_by_insert : (limit : Option ℕ) (params : Row) (table : Table) (from : Source) (db : Trees)
    (w : Written) → table.is_counted ≡ false → Inserts (task_on limit params table) from db (Ok w)
    → AreTables db → AreTables w.trees
kept_by_insert limit params table from db w uncounted h tables =
    let given = went h in
    let counter = went given.2 in
    let edit = edit_of db table [] (rowids_for table (count_of counter.0)) 0 given.0 in
    let written = went counter.2 in
    let counted = went written.2 in
    let still = uncounts (task_on limit params table) written.0 counter.0
    (fold higher (count_of counter.0) edit.news) counted.0 uncounted counted.1 in
    let trees : w.trees ≡ written.0 =
    ap (λ (it : Written). it.trees) (same_ok counted.2) ∙ still in
    let quiet = quiet_works office_schema Enforced table.tree (taken_by db edit) edit.news
    quiet_office in
    let applies = one_step office_schema Enforced db written.0 edit quiet written.1 in
    subst AreTables (sym trees) (tables_after Enforced db written.0 edit applies tables)

pub tables_after_insert : (sql : List ℕ) (at : ℕ) (table : Table) (from : Source) (params : Row)
    (old new : State) (count : ℕ) → slice_get office_schema.tables at ≡ Some table
    → command_of (understood office_schema sql) ≡ Insert at from
    → IsPlain (understood office_schema sql) → table.is_counted ≡ false
    → old.now.schema ≡ office_schema → AreTables old.now.trees
    → Executes sql params old new (Ok count) → AreTables new.now.trees
tables_after_insert sql at table from params old new count slot is plain uncounted has tables h =
    let db = old.now.trees in
    let command = Insert at from in
    let w = runs_as sql params old new office_schema has command is plain count h in
    let text = statement_of sql (understood office_schema sql) in
    let does = subst (λ s. Does old.step_limit enforcing params (record old.now { schema = s })
    text None command (Ok (w.tally, new.now))) has w.changed in
    let done = wrote old.step_limit params db at table command w.tally new.now slot does in
    subst AreTables (sym (ap (λ (d : Database). d.trees) done.2))
    (kept_by_insert old.step_limit params table from db done.0 uncounted done.1 tables)
