use Rattle.reg_blocks.proofs.SweptPrefix.{IsSweeping}
use Rattle.reg_blocks.proofs.due.sweep_prefix.Given as goal

abbrev pub invariant-loop-i : goal.invariant-loop-i
invariant-loop-i l = IsSweeping l.prefix l.given l.fn.size l.i l.candidate
