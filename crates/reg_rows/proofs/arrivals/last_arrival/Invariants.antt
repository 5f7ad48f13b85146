use Rattle.std.proofs.Common.{◌≡◌, reverse, take}
use Rattle.std.specs.Prelude.{find}
use Rattle.reg_core.specs.Times.{submits}
use Rattle.reg_rows.specs.Arrivals.{arrival_by}
use Rattle.reg_rows.proofs.arrivals.last_arrival.Given as goal

abbrev pub invariant-loop-row : goal.invariant-loop-row
invariant-loop-row l =
    l.found ≡ arrival_by
    (find (λ n. submits (l.account, l.reference) n.act.deed) (reverse (take l.row-index l.rows)))
