use Rattle.std.proofs.Common.{map, take}
use Rattle.reg_history.specs.Published.{range_fact}
use Rattle.reg_history.specs.Recording.{Took}
use Rattle.reg_history.proofs.published.take_ranges.Given as goal

abbrev pub invariant-loop-range : goal.invariant-loop-range
invariant-loop-range g l =
    Took g.T.Takes.Awaits l.fn.taker l.taker (map (range_fact l.registry) (take l.range-index l.ranges))
