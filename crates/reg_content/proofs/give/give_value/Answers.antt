use Rattle.std.proofs.Common.{refl}
use Rattle.reg_rows.proofs.Joining.{steps_as}
use Rattle.reg_rows.proofs.RegistryRowsSteps.{steps_then}
use Rattle.reg_content.proofs.give.give_value.Goals as goal

pub returns-clause-steps : goal.returns-clause-steps
returns-clause-steps g c =
    let stated = rw c.approval.ensures at c.in_ok-set_state.ensures.steps in
    steps_then (steps_as stated (λ w fits. (fits.0, refl))) tt
    c.in_ok-put_entry.ensures.steps (λ w fits. (fits.1, refl))
