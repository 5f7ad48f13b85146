use Rattle.reg_opening.proofs.Neighbours.{apart_by_neighbours, beside_first}
use Rattle.reg_opening.proofs.blocks.is_apart.Goals as goal

pub returns-then-is_beside : goal.returns-then-is_beside
returns-then-is_beside c = λ apart. (
  λ beside.
      apart_by_neighbours c.args.holders.now c.args.block.now apart c.last_before.result
      c.first_from.result c.last_before.ensures c.first_from.ensures
      (c.is_beside.ensures.0 c.if-is_beside.true)
      (c.is_beside-then-is_beside.ensures.0 beside),
  λ all.
      c.is_beside-then-is_beside.ensures.1
      (beside_first c.args.holders.now c.args.block.now c.first_from.result c.first_from.ensures
      all),
)
