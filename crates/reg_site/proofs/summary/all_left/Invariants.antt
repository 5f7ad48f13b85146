use Rattle.std.proofs.Common.{◌≡◌, ◌*◌, ◌≤◌, take}
use Rattle.std.specs.List.{sum_by}
use Rattle.reg_site.specs.Summary.{left_as}
use Rattle.reg_site.proofs.summary.all_left.Given as goal

abbrev pub invariant-loop-share : goal.invariant-loop-share
invariant-loop-share l = record {
  sum : l.all ≡ sum_by (left_as l.rest) (take l.share-index l.shares);
  bound : l.all ≤ 4294967296 * l.share-index;
}
