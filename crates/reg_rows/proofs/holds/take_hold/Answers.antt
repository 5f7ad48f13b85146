use Rattle.reg_core.specs.World.{Place}
use Rattle.reg_statements.specs.Content.{parts_of}
use Rattle.reg_rows.proofs.Joining.{steps_in}
use Rattle.reg_rows.proofs.MarksWritten.{mark_taken}
use Rattle.reg_rows.proofs.holds.take_hold.Goals as goal

pub returns-clause-steps : goal.returns-clause-steps
returns-clause-steps g c =
    let place : Place = (c.args.hold.now.registry, c.args.hold.now.value) in
    steps_in (c.take.ensures.steps place c.values.ensures)
    (λ db was any. mark_taken (parts_of db) place)
