use Rattle.reg_records.specs.declared.registries.Registry.{Registry}
use Rattle.reg_rows.proofs.Joining.{steps_in}
use Rattle.reg_rows.proofs.RegistryRowsAdded.{registry_added}
use Rattle.reg_rows.proofs.registries.add_name.Goals as goal

pub returns-clause-steps : goal.returns-clause-steps
returns-clause-steps g c =
    let registry : Registry = record { name = c.args.name.now; max = c.args.max } in
    steps_in (c.add.ensures.steps registry c.formed.ensures c.values.ensures)
    (registry_added registry)
