use Rattle.std.proofs.Common.{nat_le, arith, rules}
use Rattle.std.proofs.lemmas.List.Sorted.{IsPartitionPoint-from_clause, IsPartitionedBy-leb}
use Rattle.reg_core.proofs.EntriesInRange.{take_is_filter}
use Rattle.reg_core.proofs.page.entries_to.Goals as goal

pub returns : goal.returns
returns c =
    let xs = c.args.entries.now in
    let hi = c.args.hi in
    let k = c.partition_point-end.result in
    let point =
    IsPartitionPoint-from_clause (λ e. nat_le e.value hi) xs k
    c.partition_point-end.ensures.partitioned
    (IsPartitionedBy-leb (λ e. e.value) xs hi c.requires) (λ a r f' h. search rules) in
    take_is_filter (λ e. nat_le e.value hi) xs k c.partition_point-end.ensures.bound
    (λ i d lt. point.0 i d (omega arith) lt)
    (λ i d from lt. point.1 i d from lt)
