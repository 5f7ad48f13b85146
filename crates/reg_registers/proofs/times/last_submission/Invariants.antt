use Rattle.std.proofs.Common.{◌≡◌, reverse, take}
use Rattle.reg_core.specs.Times.{last_moment, submits}
use Rattle.reg_registers.proofs.times.last_submission.Given as goal

abbrev pub invariant-loop-act : goal.invariant-loop-act
invariant-loop-act l =
    l.moment ≡ last_moment (submits (l.fn.account, l.fn.reference)) (reverse (take l.act-index l.acts))
