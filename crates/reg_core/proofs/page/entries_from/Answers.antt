use Rattle.std.proofs.Common.{◌∙◌, ◌-◌, nat_lt, nat_le, arith, rules, length-drop, drop, length}
use Rattle.std.proofs.lemmas.Bool.{ltb-true, ltb-false, le-leb, lt-leb}
use Rattle.std.proofs.lemmas.List.{take_all}
use Rattle.std.proofs.lemmas.List.Sorted.{IsPartitionPoint-from_clause, IsPartitionedBy-ltb}
use Rattle.reg_core.proofs.EntriesInRange.{drop_is_filter}
use Rattle.reg_core.proofs.page.entries_from.Goals as goal

pub returns : goal.returns
returns c =
    let xs = c.args.entries.now in
    let lo = c.args.lo in
    let k = c.partition_point-start.result in
    let point =
    IsPartitionPoint-from_clause (λ e. nat_lt e.value lo) xs k
    c.partition_point-start.ensures.partitioned
    (IsPartitionedBy-ltb (λ e. e.value) xs lo c.requires) (λ a r f' h. search rules) in
    take_all (length xs - k) (drop k xs) (omega (arith, length-drop k xs))
    ∙ drop_is_filter (λ e. nat_le lo e.value) xs k c.partition_point-start.ensures.bound
    (λ i d lt. lt-leb lo _ (ltb-true _ lo (point.0 i d (omega arith) lt)))
    (λ i d from lt. le-leb lo _ (ltb-false _ lo (point.1 i d from lt)))
