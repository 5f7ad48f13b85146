use Rattle.std.proofs.Common.{◌≡◌, ◌<◌, get_or, length, arith}
use Rattle.std.proofs.lemmas.Grind.{common_steps}
use Rattle.reg_history.specs.Published.{prefix_fact}
use Rattle.reg_history.proofs.Taken.{took_all, took_more, took_none}
use Rattle.reg_history.proofs.published.take_prefixes.Goals as goal

pub loop-prefix-init : goal.loop-prefix-init
loop-prefix-init g c = took_none g.T.Takes.Awaits c.args.taker.now

pub loop-prefix-preserved : goal.loop-prefix-preserved
loop-prefix-preserved g c =
    let prefixes = c.args.prefixes.now in
    let i = c.loop-prefix.prefix-index in
    let inside : i < length prefixes = omega (arith, c.loop-prefix-test.true) in
    let same : get_or prefixes i 0 ≡ get_or prefixes i (get_or prefixes i 0) =
    grind (arith, common_steps) in
    took_more g.T.Takes.Awaits prefix_fact c.args.taker.now c.loop-prefix.taker c.take.new.self
    c.args.prefixes.now c.loop-prefix.prefix-index (get_or c.args.prefixes.now c.loop-prefix.prefix-index 0)
    c.in_ok-prefix_fact.field-0 inside same c.in_ok-prefix_fact.ensures c.loop-prefix.invariant
    c.in_ok-take.ensures

pub returns : goal.returns
returns g c =
    took_all g.T.Takes.Awaits prefix_fact c.args.taker.now c.loop-prefix.taker c.args.prefixes.now
    c.loop-prefix.prefix-index (omega (arith, c.loop-prefix-test.false)) c.loop-prefix.invariant
