use Rattle.std.proofs.Common.{◌≡◌, ◌++◌}
use Rattle.std.specs.BTreeMap.{btree_map_len}
use Rattle.reg_site.specs.Sums.{entries_of, lines_of}
use Rattle.reg_site.proofs.sums.Sums.text.Given as goal

abbrev pub invariant-loop-path : goal.invariant-loop-path
invariant-loop-path l =
    l.out.items ++ lines_of (entries_of l.self) ≡ lines_of (entries_of l.fn.self)

abbrev pub decreases-loop-path : goal.decreases-loop-path
decreases-loop-path l = btree_map_len l.self.digests
