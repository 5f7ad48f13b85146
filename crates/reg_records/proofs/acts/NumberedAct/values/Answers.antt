use Rattle.std.proofs.Common.{◌∙◌, ap}
use Rattle.sqlite.specs.Values.{bound_value}
use Rattle.reg_records.specs.Acts.{actor_values, moment_values}
use Rattle.reg_records.specs.Deeds.{deed_values}
use Rattle.reg_records.specs.declared.acts.NumberedAct.{NumberedAct}
use Rattle.reg_records.proofs.DeedLaws.{deed_cells}
use Rattle.reg_records.proofs.RequestLaws.Steps.{◌⊕◌, one}
use Rattle.reg_records.proofs.RequestLaws.Written.{bound-each}
use Rattle.reg_records.proofs.acts.NumberedAct.values.Goals as goal

pub returns : goal.returns
returns c =
    let numbered : NumberedAct = c.args.self.now in
    let stamp = numbered.act.stamp in
    one (ap bound_value c.number_value.ensures)
    ⊕ bound-each c.moment_values.result 2 (moment_values stamp.moment) c.moment_values.ensures
    ⊕ bound-each c.actor_values.result 2 (actor_values stamp.by) c.actor_values.ensures
    ⊕ (bound-each c.deed_values.result 8 (deed_values numbered.act.deed) c.deed_values.ensures
    ∙ deed_cells numbered.act.deed)
