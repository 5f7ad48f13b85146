use Rattle.std.proofs.Common.{map, take}
use Rattle.reg_history.specs.Published.{block_fact}
use Rattle.reg_history.specs.Recording.{Took}
use Rattle.reg_history.proofs.published.take_blocks.Given as goal

abbrev pub invariant-loop-row : goal.invariant-loop-row
invariant-loop-row g l =
    Took g.T.Takes.Awaits l.fn.taker l.taker (map (λ row. block_fact row.block) (take l.row-index l.rows))
