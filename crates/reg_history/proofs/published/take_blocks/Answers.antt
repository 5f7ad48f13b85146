use Rattle.std.proofs.Common.{arith}
use Rattle.reg_history.specs.Published.{block_fact}
use Rattle.reg_history.proofs.Taken.{took_all, took_more, took_none}
use Rattle.reg_history.proofs.published.take_blocks.Goals as goal

pub loop-row-init : goal.loop-row-init
loop-row-init g c = took_none g.T.Takes.Awaits c.args.taker.now

pub loop-row-preserved : goal.loop-row-preserved
loop-row-preserved g c =
    took_more g.T.Takes.Awaits (λ row. block_fact row.block) c.args.taker.now c.loop-row.taker c.take.new.self
    c.args.rows.now c.loop-row.row-index c.row-item.result c.in_ok-block_fact.field-0
    (omega (arith, c.loop-row-test.true)) c.row-item.is c.in_ok-block_fact.ensures c.loop-row.invariant
    c.in_ok-take.ensures

pub returns : goal.returns
returns g c =
    took_all g.T.Takes.Awaits (λ row. block_fact row.block) c.args.taker.now c.loop-row.taker c.args.rows.now
    c.loop-row.row-index (omega (arith, c.loop-row-test.false)) c.loop-row.invariant
