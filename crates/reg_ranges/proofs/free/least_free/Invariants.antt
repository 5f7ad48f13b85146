use Rattle.std.proofs.Common.{drop}
use Rattle.std.specs.Prelude.{Contains}
use Rattle.reg_ranges.proofs.LeastFree.{Searched}
use Rattle.reg_ranges.proofs.free.least_free.Given as goal

abbrev pub invariant-loop-range : goal.invariant-loop-range
invariant-loop-range l =
    Searched l.table l.policy (Contains l.taken) (drop l.range-index l.table.ranges)
