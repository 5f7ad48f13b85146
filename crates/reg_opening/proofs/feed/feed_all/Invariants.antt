use Rattle.std.proofs.Common.{◌≡◌, ◌++◌, List, length, map}
use Rattle.reg_opening.specs.Feeding.{FeedsRows}
use Rattle.reg_opening.proofs.feed.feed_all.Given as goal

abbrev pub invariant-values : goal.invariant-values
invariant-values g l =
    (fed : List g.row.T.Denot) × (l.fn.values.items ≡ l.values.items ++ fed)
    × FeedsRows l.fn.audit l.audit (map g.T.Fed.row_of fed)

abbrev pub decreases-values : goal.decreases-values
decreases-values g l = length l.values.items
