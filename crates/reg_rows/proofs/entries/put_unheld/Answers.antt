use Rattle.reg_statements.specs.Content.{parts_of}
use Rattle.reg_records.specs.Entries.{unheld}
use Rattle.reg_records.proofs.EntryLaws.{unheld_form}
use Rattle.reg_rows.proofs.Joining.{steps_in}
use Rattle.reg_rows.proofs.MarksWritten.{entry_put}
use Rattle.reg_rows.proofs.entries.put_unheld.Goals as goal

pub returns-clause-steps : goal.returns-clause-steps
returns-clause-steps g c =
    let entry = c.args.entry.now in
    steps_in (c.put.ensures.steps (unheld entry) (unheld_form entry c.formed.ensures)
    c.entry_values.ensures)
    (λ db was free. entry_put (parts_of db) was.kept.tied entry free)
