use Rattle.std.proofs.Common.{◌≡◌, map, take}
use Rattle.reg_site.specs.Summary.{share}
use Rattle.reg_site.proofs.summary.shares.Given as goal

abbrev pub invariant-loop-range : goal.invariant-loop-range
invariant-loop-range l =
    l.shares.items ≡ map (share l.page.entries) (take l.range-index l.page.table.ranges)
