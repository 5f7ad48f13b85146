use Rattle.std.proofs.Common.{map, take}
use Rattle.reg_history.specs.Published.{entry_fact}
use Rattle.reg_history.specs.Recording.{Took}
use Rattle.reg_history.proofs.published.take_entries.Given as goal

abbrev pub invariant-loop-entry : goal.invariant-loop-entry
invariant-loop-entry g l =
    Took g.T.Takes.Awaits l.fn.taker l.taker (map (entry_fact l.registry) (take l.entry-index l.entries))
