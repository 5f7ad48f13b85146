use Rattle.std.proofs.Common.{refl}
use Rattle.reg_records.specs.declared.caps.Grant.{Grant}
use Rattle.reg_rows.proofs.Joining.{steps_in}
use Rattle.reg_content.proofs.caps.add_cap.Goals as goal

pub returns-clause-steps : goal.returns-clause-steps
returns-clause-steps g c =
    let grant : Grant = record { digest = c.args.digest.now; cap = c.args.cap.now } in
    steps_in (c.add.ensures.steps grant c.formed.ensures c.values.ensures)
    (λ db was none. ((none, λ tied. tied), refl))
