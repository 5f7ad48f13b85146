-- What a statement that went through leaves of an office's tables.
use Rattle.std.proofs.Common.{ℕ, List, Ok, ◌∙◌}
use Rattle.sqlite.specs.Effect.{Database}
use Rattle.sqlite.specs.Order.{Row}
use Rattle.sqlite.specs.State.{State, Executes}
use Rattle.sqlite.specs.Table.{Table}
use Rattle.sqlite.specs.Term.{Term}
use Rattle.reg_tables.specs.Connection.{RunsInside}
use Rattle.reg_tables.specs.Editing.{IsOffice}
use Rattle.reg_tables.specs.Inserting.{AddedRow}
use Rattle.reg_tables.specs.Kinds.{WritesRows}
use Rattle.reg_tables.proofs.InsertLemmas.{Adds, adds}
use Rattle.reg_tables.proofs.EditLemmas.Inserting.{tables_after_insert}
use Rattle.reg_tables.proofs.Library.Writes.{written_schema}
use Rattle.reg_rows.specs.Calls.{StepsAt, TurnsAt}

-- what a statement leaves that ran, by what it turned the rows into
pub written : {W U E : Type 0} {seen : Database → W} {sql : List ℕ} {params : Row}
    {old new : State} {count : ℕ} {x : U} {Fits : W → Type 0} {changed : W → W}
    → RunsInside {E = E} sql params old new (Ok count) → WritesRows sql
    → (Executes sql params old new (Ok count) → TurnsAt seen Fits changed old.now new.now)
    → StepsAt {E = E} seen old new (Ok x) Fits changed
written {sql = sql} {params = params} {old = old} {new = new} {count = count} it writes turns = record {
  endures = it.endures;
  kept = it.kept;
  went = it.went;
  tables = λ clean. written_schema sql params old new count writes (it.ran clean);
  turns = λ clean. turns (it.ran clean);
}

-- an INSERT adds its row, and leaves an office's tables
pub added_row : {sql : List ℕ} {at : ℕ} {table : Table} {terms : List Term} {params : Row}
    (old new : State) (count : ℕ) → Adds sql at table terms params → IsOffice old.now
    → Executes sql params old new (Ok count)
    → AddedRow table.tree params old.now new.now × IsOffice new.now
added_row {sql} {at} {table} {terms} {params} old new count a office ran =
    let row = adds sql at table terms params a old new count office.schema ran in (
      row,
      record {
        schema = row.schema ∙ office.schema;
        sound = row.sound;
        tables = tables_after_insert sql at table _ params old new count a.slot a.is a.plain
            a.counts office.schema office.tables ran;
      },
    )
