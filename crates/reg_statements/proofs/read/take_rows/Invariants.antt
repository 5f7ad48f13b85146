use Rattle.std.proofs.Common.{◌≡◌, List, false, length}
use Rattle.sqlite.specs.Given.{HasGiven}
use Rattle.sqlite.specs.Held.{state}
use Rattle.sqlite.specs.Order.{Row}
use Rattle.sqlite.specs.State.{HasCleanDisk, IsUnchanged}
use Rattle.sqlite.specs.Values.{bound}
use Rattle.reg_tables.specs.Lasting.{Lasts}
use Rattle.reg_statements.specs.Reading.{AreTaken}
use Rattle.reg_statements.proofs.read.take_rows.Given as goal

abbrev pub invariant-rows : goal.invariant-rows
invariant-rows g l =
    let old = state g.S.Store l.fn.conn in
    let now = state g.S.Store l.rows.conn.now in
    record {
      same_reference : l.rows.conn.ghost_name ≡ l.initial.rows.conn.ghost_name;
      mode : now.in_transaction ≡ false;
      lasts : Lasts old now;
      same : HasCleanDisk now → IsUnchanged old now;
      whole : g.K.Sink.Whole l.fn.sink → g.K.Sink.Whole l.sink;
      given : HasCleanDisk now → (given : List Row)
          × HasGiven g.S.Store l.sql (bound l.params) l.rows.conn.now given
          × (length given ≡ l._at)
          × AreTaken g.T.Record.of g.K.Sink.Takes l.fn.sink given l.sink l.read;
    }
