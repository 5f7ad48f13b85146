use Rattle.std.proofs.Common.{drop}
use Rattle.reg_ranges.proofs.LeastGap.{Walked}
use Rattle.reg_ranges.proofs.free.least_gap.Given as goal

abbrev pub invariant-loop-value : goal.invariant-loop-value
invariant-loop-value l = Walked l.lo l.hi l.candidate l.taken (drop l.value-index l.value-items)
