use Rattle.std.proofs.Common.{refl}
use Rattle.reg_rows.proofs.Joining.{steps_in}
use Rattle.reg_content.proofs.caps.take_cap.Goals as goal

pub returns-clause-steps : goal.returns-clause-steps
returns-clause-steps g c =
    steps_in (c.take.ensures.steps c.args.digest.now (rw c.name_value.ensures refl))
    (λ db was any. ((λ tied. tied), refl))
