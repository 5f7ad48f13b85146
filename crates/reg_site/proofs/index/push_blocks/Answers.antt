use Rattle.reg_pages.proofs.Pieces.{joined, shown}
use Rattle.reg_site.proofs.index.push_blocks.Goals as goal

pub returns : goal.returns
returns c =
    shown
    (joined c.in_ok-push_all.ensures
    (joined c.in_ok-push_size.ensures.bytes
    (joined c.in_ok-push_size-2.ensures.bytes
    (joined c.in_ok-push_size-3.ensures.bytes
    (c.in_ok-push.ensures)))))
