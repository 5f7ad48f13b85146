use Rattle.sqlite.specs.Held.{state}
use Rattle.reg_tables.proofs.Enduring.{endures_lasting}
use Rattle.reg_statements.proofs.read.each.Goals as goal

pub returns-in-Ok-clause-endures : goal.returns-in-Ok-clause-endures
returns-in-Ok-clause-endures g c =
    endures_lasting (state g.S.Store c.args.conn.now) (state g.S.Store c.take_rows.new.conn) c.take_rows.ensures.lasts

pub returns-in-Err-clause-endures : goal.returns-in-Err-clause-endures
returns-in-Err-clause-endures g c =
    endures_lasting (state g.S.Store c.args.conn.now) (state g.S.Store c.take_rows.new.conn) c.take_rows.ensures.lasts

pub returns-in-Err-clause-fault : goal.returns-in-Err-clause-fault
returns-in-Err-clause-fault g c =
    record {
      error = c.in-Err.error;
      told = c.fault.ensures;
      met = c.in-Err.ensures.met;
      cause = c.in-Err.ensures.cause;
    }
