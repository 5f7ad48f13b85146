use Rattle.std.proofs.Common.{◌≡◌, drop}
use Rattle.reg_ranges.specs.Faults.{fault_from}
use Rattle.reg_ranges.proofs.table.first_fault.Given as goal

-- the faults are those of the ranges that are left
abbrev pub invariant-loop-i : goal.invariant-loop-i
invariant-loop-i l = fault_from l.i l.next l.max (drop l.i l.ranges) ≡ fault_from 0 0 l.max l.ranges
