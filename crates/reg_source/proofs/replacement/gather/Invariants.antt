use Rattle.std.proofs.Common.{◌≡◌, ◌++◌, length}
use Rattle.reg_source.proofs.replacement.gather.Given as goal

abbrev pub invariant-loop-gathered : goal.invariant-loop-gathered
invariant-loop-gathered g l =
    l.gathered.items ++ g.P.Portions.rest l.bytes ≡ g.P.Portions.rest l.fn.bytes

abbrev pub decreases-loop-gathered : goal.decreases-loop-gathered
decreases-loop-gathered g l = length (g.P.Portions.rest l.bytes)
