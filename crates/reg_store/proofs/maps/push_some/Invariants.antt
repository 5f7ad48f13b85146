use Rattle.std.proofs.Common.{◌≡◌, ◌++◌, map}
use Rattle.std.specs.Prelude.{Option, filter_map}
use Rattle.std.specs.Map.Iter.{deref_pair}
use Rattle.reg_store.proofs.maps.push_some.Given as goal
use Rattle.reg_store.specs.Maps.{Computes}

abbrev pub invariant-loop-key : goal.invariant-loop-key
invariant-loop-key g l =
    (f : g.row.K.Denot → g.row.V.Denot → Option g.row.T.Denot) → Computes (goal.F-post g l.make) f
    → l.made.items ≡ l.fn.made.items ++ filter_map (λ e. f e.0 e.1) (map deref_pair l.yielded)
