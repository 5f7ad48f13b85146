use Rattle.std.proofs.Common.{Some, None}
use Rattle.std.specs.Prelude.{Contains}
use Rattle.reg_ranges.proofs.LeastFree.{search_starts, turn_goes_on, turn_finds, turns_end, is_least_value}
use Rattle.reg_ranges.proofs.free.least_free.Goals as goal

pub loop-range-init : goal.loop-range-init
loop-range-init c =
    search_starts c.args.table.now c.args.policy (Contains c.args.taken.now)
    c.ranges-range-items.ensures.partition

pub returns-in-Some-clause-least : goal.returns-in-Some-clause-least
returns-in-Some-clause-least c =
    turn_finds c.args.table.now c.args.policy (Contains c.args.taken.now) _
    c.loop-range.range-index
    c.range-item.result c.in-Some.value c.ranges-range-items.ensures.ranges
    c.ranges-range-items.ensures.partition c.loop-range-test.true c.range-item.is
    c.loop-range.invariant c.in-Some.ensures

pub returns-in-Some-clause-value : goal.returns-in-Some-clause-value
returns-in-Some-clause-value c =
    let partition = c.ranges-range-items.ensures.partition in
    is_least_value c.args.table.now partition c.args.policy c.args.taken.now (Some c.in-Some.value)
    (turn_finds c.args.table.now c.args.policy (Contains c.args.taken.now) _
    c.loop-range.range-index
    c.range-item.result c.in-Some.value c.ranges-range-items.ensures.ranges
    partition c.loop-range-test.true c.range-item.is c.loop-range.invariant c.in-Some.ensures)

pub loop-range-preserved : goal.loop-range-preserved
loop-range-preserved c =
    turn_goes_on c.args.table.now c.args.policy (Contains c.args.taken.now) _
    c.loop-range.range-index
    c.range-item.result c.ranges-range-items.ensures.ranges
    c.ranges-range-items.ensures.partition c.loop-range-test.true c.range-item.is
    c.loop-range.invariant c.in_default.ensures

pub returns-clause-least : goal.returns-clause-least
returns-clause-least c =
    turns_end c.args.table.now c.args.policy (Contains c.args.taken.now) _ c.loop-range.range-index
    c.ranges-range-items.ensures.ranges
    c.ranges-range-items.ensures.partition c.loop-range-test.false c.loop-range.invariant

pub returns-clause-value : goal.returns-clause-value
returns-clause-value c =
    let partition = c.ranges-range-items.ensures.partition in
    is_least_value c.args.table.now partition c.args.policy c.args.taken.now None
    (turns_end c.args.table.now c.args.policy (Contains c.args.taken.now) _
    c.loop-range.range-index
    c.ranges-range-items.ensures.ranges partition c.loop-range-test.false
    c.loop-range.invariant)
