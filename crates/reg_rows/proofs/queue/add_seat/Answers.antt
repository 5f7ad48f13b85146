use Rattle.std.proofs.Common.{refl}
use Rattle.reg_records.specs.declared.queue.Seat.{Seat}
use Rattle.reg_rows.proofs.Found.{absent}
use Rattle.reg_rows.proofs.Joining.{steps_in}
use Rattle.reg_rows.proofs.queue.add_seat.Goals as goal

pub returns-clause-steps : goal.returns-clause-steps
returns-clause-steps g c =
    let seat : Seat = record {
      account = c.args.account.now;
      reference = c.args.reference.now;
      expert = c.args.expert.now;
    } in
    steps_in (c.add.ensures.steps seat c.formed.ensures c.values.ensures)
    (λ db was none. ((absent _ none, λ tied. tied), refl))
