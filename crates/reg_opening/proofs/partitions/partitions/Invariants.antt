use Rattle.std.proofs.Common.{◌≡◌, map}
use Rattle.reg_opening.specs.Partitions.{partition_from}
use Rattle.reg_opening.proofs.partitions.partitions.Given as goal

abbrev pub invariant-loop-share : goal.invariant-loop-share
invariant-loop-share g l = l.all.items ≡ map partition_from l.yielded
