use Rattle.reg_opening.proofs.Neighbours.{last_found}
use Rattle.reg_opening.proofs.blocks.last_before.Goals as goal

pub returns : goal.returns
returns c =
    last_found c.args.holders.now c.args.block.now c.range.result (c.range.ensures.in_range tt)
    c.in_ok-last.last.now c.in_ok-last.field-0-1.now c.next_back.new.self
    c.in_ok-last.ensures.steps
