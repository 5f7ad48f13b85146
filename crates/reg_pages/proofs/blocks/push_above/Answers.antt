use Rattle.reg_pages.proofs.Pieces.{joined}
use Rattle.reg_pages.proofs.blocks.push_above.Goals as goal

pub returns : goal.returns
returns c =
    joined c.in_ok-push_start.ensures
    (joined c.in_ok-push.ensures
    (joined c.in_ok-push_apply.ensures.bytes
    (joined c.in_ok-push_if_none.ensures.bytes c.in_ok-push-2.ensures)))
