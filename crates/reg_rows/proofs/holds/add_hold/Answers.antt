use Rattle.reg_statements.specs.Content.{parts_of}
use Rattle.reg_rows.proofs.Joining.{steps_in}
use Rattle.reg_rows.proofs.MarksWritten.{mark_added}
use Rattle.reg_rows.proofs.holds.add_hold.Goals as goal

pub returns-clause-steps : goal.returns-clause-steps
returns-clause-steps g c =
    let hold = c.args.hold.now in
    steps_in (c.add.ensures.steps hold c.formed.ensures c.values.ensures)
    (λ db was fits. mark_added (parts_of db) was.kept.tied hold fits)
