use Rattle.std.proofs.Common.{◌≡◌, take}
use Rattle.reg_ranges.proofs.table.same_ranges.Given as goal

abbrev pub invariant-loop-i : goal.invariant-loop-i
invariant-loop-i l = take l.i l.ranges ≡ take l.i l.others
