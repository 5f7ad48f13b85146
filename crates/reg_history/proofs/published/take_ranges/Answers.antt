use Rattle.std.proofs.Common.{arith}
use Rattle.reg_history.specs.Published.{range_fact}
use Rattle.reg_history.proofs.Taken.{took_all, took_more, took_none}
use Rattle.reg_history.proofs.published.take_ranges.Goals as goal

pub loop-range-init : goal.loop-range-init
loop-range-init g c = took_none g.T.Takes.Awaits c.args.taker.now

pub loop-range-preserved : goal.loop-range-preserved
loop-range-preserved g c =
    took_more g.T.Takes.Awaits (range_fact c.args.registry.now) c.args.taker.now c.loop-range.taker c.take.new.self
    c.args.ranges.now c.loop-range.range-index c.range-item.result c.in_ok-range_fact.field-0
    (omega (arith, c.loop-range-test.true)) c.range-item.is c.in_ok-range_fact.ensures c.loop-range.invariant
    c.in_ok-take.ensures

pub returns : goal.returns
returns g c =
    took_all g.T.Takes.Awaits (range_fact c.args.registry.now) c.args.taker.now c.loop-range.taker c.args.ranges.now
    c.loop-range.range-index (omega (arith, c.loop-range-test.false)) c.loop-range.invariant
