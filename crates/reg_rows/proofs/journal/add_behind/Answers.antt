use Rattle.std.proofs.Common.{◌+◌, ◌∙◌, ap, refl}
use Rattle.reg_rows.proofs.Joining.{steps_as, steps_told}
use Rattle.reg_rows.proofs.journal.add_behind.Goals as goal

pub returns-clause-steps : goal.returns-clause-steps
returns-clause-steps g c =
    steps_told c.in-Some.number (steps_as c.in_ok-add_act.ensures.steps
    (λ w is. (c.in-Some.ensures.1 ∙ ap (λ n. n + 1) is, refl)))
