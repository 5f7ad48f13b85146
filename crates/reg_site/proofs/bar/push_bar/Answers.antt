use Rattle.reg_pages.proofs.Pieces.{joined, shown}
use Rattle.reg_site.proofs.bar.push_bar.Goals as goal

pub returns : goal.returns
returns c =
    shown
    (joined c.in_ok-push.ensures
    (joined c.in_ok-push_picture.ensures.bytes
    (joined c.in_ok-push-2.ensures
    (joined c.in_ok-push_legend.ensures.bytes
    (c.in_ok-push-3.ensures)))))
