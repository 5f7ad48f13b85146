use Rattle.reg_records.specs.declared.minutes.Minute.{Minute}
use Rattle.reg_statements.specs.Content.{parts_of}
use Rattle.reg_rows.proofs.Joining.{steps_in}
use Rattle.reg_rows.proofs.MinutesWritten.{minute_named}
use Rattle.reg_rows.proofs.minutes.add_minute.Goals as goal

pub returns-clause-steps : goal.returns-clause-steps
returns-clause-steps g c =
    let row : Minute = record {
      account = c.args.account.now;
      reference = c.args.reference.now;
      minute = c.in_ok-copy.field-0;
    } in
    steps_in (c.add-done.ensures.steps row c.formed.ensures c.values.ensures)
    (λ db was fits. minute_named (parts_of db) was.kept.tied row c.args.minute.now
    c.in_ok-copy.ensures.equal fits)
