use Rattle.std.proofs.Common.{refl}
use Rattle.reg_ranges.proofs.Partitions.{partition_from_none, none_from_partition}
use Rattle.reg_ranges.proofs.table.RangeTable.make.Goals as goal

pub invariant_of-result : goal.invariant_of-result
invariant_of-result c = partition_from_none c.args.max c.args.ranges.items (cc)

pub returns-in-Some-clause-partition : goal.returns-in-Some-clause-partition
returns-in-Some-clause-partition c = (
  λ no. absurd (cc),
  λ p.
      absurd (let none = none_from_partition c.args.max c.args.ranges.items p in cc),
)

pub returns-in-None-clause-partition : goal.returns-in-None-clause-partition
returns-in-None-clause-partition c =
    (λ _. partition_from_none c.args.max c.args.ranges.items (cc), λ _. refl)
