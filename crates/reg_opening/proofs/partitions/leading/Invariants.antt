use Rattle.std.proofs.Common.{◌≡◌, ◌++◌, length}
use Rattle.reg_opening.specs.Partitions.{leading, trailing}
use Rattle.reg_opening.proofs.partitions.leading.Given as goal

abbrev pub invariant-rows : goal.invariant-rows
invariant-rows g l =
    (leading l.fn.name l.fn.rows ≡ l.ranges.items ++ leading l.fn.name l.rows)
    × (trailing l.fn.name l.fn.rows ≡ trailing l.fn.name l.rows)

abbrev pub decreases-rows : goal.decreases-rows
decreases-rows g l = length l.rows
