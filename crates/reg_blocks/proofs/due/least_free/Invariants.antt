use Rattle.reg_blocks.proofs.BlockDue.{IsLooking}
use Rattle.reg_blocks.proofs.due.least_free.Given as goal

abbrev pub invariant-loop-prefix : goal.invariant-loop-prefix
invariant-loop-prefix l = IsLooking l.pool l.given l.size l.passed l.prefix-index
