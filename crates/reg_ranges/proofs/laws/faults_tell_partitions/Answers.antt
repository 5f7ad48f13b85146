use Rattle.reg_ranges.proofs.Partitions.{partition_from_none, none_from_partition}
use Rattle.reg_ranges.proofs.laws.faults_tell_partitions.Goals as goal

pub returns : goal.returns
returns c max ranges = (partition_from_none max ranges, none_from_partition max ranges)
