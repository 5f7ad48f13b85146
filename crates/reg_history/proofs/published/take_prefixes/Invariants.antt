use Rattle.std.proofs.Common.{map, take}
use Rattle.reg_history.specs.Published.{prefix_fact}
use Rattle.reg_history.specs.Recording.{Took}
use Rattle.reg_history.proofs.published.take_prefixes.Given as goal

abbrev pub invariant-loop-prefix : goal.invariant-loop-prefix
invariant-loop-prefix g l =
    Took g.T.Takes.Awaits l.fn.taker l.taker (map prefix_fact (take l.prefix-index l.prefixes))
