use Rattle.std.proofs.Common.{rules}
use Rattle.sqlite.specs.Held.{state}
use Rattle.sqlite.specs.Values.{bound}
use Rattle.reg_tables.proofs.Enduring.{endures_in}
use Rattle.reg_tables.proofs.Faults.{not_carried}
use Rattle.reg_tables.proofs.write.run.Goals as goal

pub returns-clause-runs : goal.returns-clause-runs
returns-clause-runs g c = record {
  endures = endures_in (state g.S.Store c.args.tx.now.conn.now)
      (state g.S.Store c.execute.new.tx.conn.now) _ c.execute.ensures.survives;
  kept = search rules;
  went = search rules;
  ran = search rules;
}

pub returns-clause-cause : goal.returns-clause-cause
returns-clause-cause g c =
    not_carried g.S.Store 0 c.args.sql.now (bound c.args.params.now) c.args.tx.now.conn.now
    c.execute.new.tx.conn.now c.execute.result (λ over. (c.execute.ensures.ended over).1)
    c.execute.ensures.runs
