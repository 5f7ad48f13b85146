use Rattle.std.proofs.Common.{◌≡◌, reverse, take}
use Rattle.reg_core.specs.Times.{last_moment, decides}
use Rattle.reg_registers.proofs.times.last_decision.Given as goal

abbrev pub invariant-loop-act : goal.invariant-loop-act
invariant-loop-act l =
    l.moment ≡ last_moment (decides (l.fn.account, l.fn.reference)) (reverse (take l.act-index l.acts))
