use Rattle.std.proofs.Common.{refl}
use Rattle.reg_rows.proofs.Joining.{steps_as}
use Rattle.reg_rows.proofs.holds.set_hold.Goals as goal

pub returns-then-held-clause-steps : goal.returns-then-held-clause-steps
returns-then-held-clause-steps g c = rw c.if-held.true c.add_hold.ensures.steps

pub returns-else-held-clause-steps : goal.returns-else-held-clause-steps
returns-else-held-clause-steps g c =
    rw c.if-held.false (steps_as c.take_hold.ensures.steps (λ w any. (tt, refl)))
