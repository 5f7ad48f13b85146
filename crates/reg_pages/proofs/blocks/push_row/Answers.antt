use Rattle.reg_pages.proofs.Pieces.{joined, shown}
use Rattle.reg_pages.proofs.blocks.push_row.Goals as goal

pub returns : goal.returns
returns c =
    shown
    (joined (rw c.prefix_of.ensures at c.in_ok-push_prefix.ensures).bytes
    c.in_ok-push_block.ensures.bytes)
