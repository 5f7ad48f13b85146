use Rattle.reg_records.specs.declared.ranges.RegistryRange.{RegistryRange}
use Rattle.reg_rows.proofs.Joining.{steps_in}
use Rattle.reg_rows.proofs.RegistryRowsAdded.{range_added}
use Rattle.reg_rows.proofs.registries.add_range.Goals as goal

pub returns-clause-steps : goal.returns-clause-steps
returns-clause-steps g c =
    let row : RegistryRange =
    record { registry = c.args.name.now; range = c.in_ok-copy.field-0 } in
    steps_in (c.add.ensures.steps row c.formed.ensures c.values.ensures)
    (range_added row c.args.range.now c.in_ok-copy.ensures)
