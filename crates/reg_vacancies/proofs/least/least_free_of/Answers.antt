use Rattle.std.proofs.Common.{ℕ, Some, None}
use Rattle.std.specs.Prelude.{IsTrue}
use Rattle.reg_ranges.proofs.LeastFree.{search_starts, turn_goes_on, turn_finds, turns_end, is_value_where}
use Rattle.reg_vacancies.specs.Runs.{has}
use Rattle.reg_vacancies.proofs.least.least_free_of.Goals as goal

pub loop-range-init : goal.loop-range-init
loop-range-init c =
    search_starts c.args.table.now c.args.policy (λ n. IsTrue (has c.args.taken.now n))
    c.ranges-range-items.ensures.partition

pub returns-in-Some-clause-least : goal.returns-in-Some-clause-least
returns-in-Some-clause-least c =
    turn_finds c.args.table.now c.args.policy (λ n. IsTrue (has c.args.taken.now n)) _
    c.loop-range.range-index c.range-item.result c.in-Some.value
    c.ranges-range-items.ensures.ranges c.ranges-range-items.ensures.partition
    c.loop-range-test.true c.range-item.is c.loop-range.invariant c.in-Some.ensures

pub returns-in-Some-clause-value : goal.returns-in-Some-clause-value
returns-in-Some-clause-value c = λ values same.
    let partition = c.ranges-range-items.ensures.partition in
    let Taken = λ (n : ℕ). IsTrue (has c.args.taken.now n) in
    is_value_where c.args.table.now partition c.args.policy Taken values same
    (Some c.in-Some.value)
    (turn_finds c.args.table.now c.args.policy Taken _ c.loop-range.range-index
    c.range-item.result c.in-Some.value c.ranges-range-items.ensures.ranges partition
    c.loop-range-test.true c.range-item.is c.loop-range.invariant c.in-Some.ensures)

pub loop-range-preserved : goal.loop-range-preserved
loop-range-preserved c =
    turn_goes_on c.args.table.now c.args.policy (λ n. IsTrue (has c.args.taken.now n)) _
    c.loop-range.range-index c.range-item.result c.ranges-range-items.ensures.ranges
    c.ranges-range-items.ensures.partition c.loop-range-test.true c.range-item.is
    c.loop-range.invariant c.in_default.ensures

pub returns-clause-least : goal.returns-clause-least
returns-clause-least c =
    turns_end c.args.table.now c.args.policy (λ n. IsTrue (has c.args.taken.now n)) _
    c.loop-range.range-index c.ranges-range-items.ensures.ranges
    c.ranges-range-items.ensures.partition c.loop-range-test.false c.loop-range.invariant

pub returns-clause-value : goal.returns-clause-value
returns-clause-value c = λ values same.
    let partition = c.ranges-range-items.ensures.partition in
    let Taken = λ (n : ℕ). IsTrue (has c.args.taken.now n) in
    is_value_where c.args.table.now partition c.args.policy Taken values same None
    (turns_end c.args.table.now c.args.policy Taken _ c.loop-range.range-index
    c.ranges-range-items.ensures.ranges partition c.loop-range-test.false
    c.loop-range.invariant)
