use Rattle.std.proofs.Common.{◌∙◌, ◌<◌, ◌≤◌, length, get_or, ap, arith}
use Rattle.std.proofs.lemmas.List.{take_all}
use Rattle.reg_rows.proofs.RegistryRowsSteps.{next_range, steps_then}
use Rattle.reg_rows.proofs.registries.add_registry.Goals as goal

pub loop-range-preserved : goal.loop-range-preserved
loop-range-preserved g c =
    let table = c.args.table.now in
    let i = c.loop-range.range-index in
    let range = c.range-item.result in
    let ranges = c.ranges-ranges.ensures in
    let inside : i < length table.ranges =
    omega (arith, ap length ranges.ranges, c.loop-range-test.true) in
    let here = c.range-item.is ∙ ap (λ rs. get_or rs i range) ranges.ranges in
    record {
      same_reference =
          c.in_ok-add_range.ensures.same_reference ∙ c.loop-range.invariant.same_reference;
      steps = steps_then c.loop-range.invariant.steps tt c.in_ok-add_range.ensures.steps
          (λ w none.
          let next = next_range w.registries c.args.name.now table i range inside here
          ranges.partition in
          (next.0, ap (λ registries. record w { registries = registries }) next.1));
    }

pub returns-clause-steps : goal.returns-clause-steps
returns-clause-steps g c =
    let ranges = c.args.table.now.ranges in
    let long : length ranges ≤ c.loop-range.range-index =
    omega (arith, ap length c.ranges-ranges.ensures.ranges, c.loop-range-test.false) in
    rw (take_all c.loop-range.range-index ranges long) at c.loop-range.invariant.steps
