use Rattle.std.proofs.Common.{arith}
use Rattle.reg_history.specs.Published.{entry_fact}
use Rattle.reg_history.proofs.Taken.{took_all, took_more, took_none}
use Rattle.reg_history.proofs.published.take_entries.Goals as goal

pub loop-entry-init : goal.loop-entry-init
loop-entry-init g c = took_none g.T.Takes.Awaits c.args.taker.now

pub loop-entry-preserved : goal.loop-entry-preserved
loop-entry-preserved g c =
    took_more g.T.Takes.Awaits (entry_fact c.args.registry.now) c.args.taker.now c.loop-entry.taker c.take.new.self
    c.args.entries.now c.loop-entry.entry-index c.entry-item.result c.in_ok-entry_fact.field-0
    (omega (arith, c.loop-entry-test.true)) c.entry-item.is c.in_ok-entry_fact.ensures c.loop-entry.invariant
    c.in_ok-take.ensures

pub returns : goal.returns
returns g c =
    took_all g.T.Takes.Awaits (entry_fact c.args.registry.now) c.args.taker.now c.loop-entry.taker c.args.entries.now
    c.loop-entry.entry-index (omega (arith, c.loop-entry-test.false)) c.loop-entry.invariant
