use Rattle.reg_pages.proofs.Pieces.{joined, shown}
use Rattle.reg_site.proofs.bar.push_legend.Goals as goal

pub returns : goal.returns
returns c =
    shown
    (joined c.in_ok-push.ensures
    (joined c.in_ok-push_counted.ensures.bytes
    (joined c.in_ok-push_counted-2.ensures.bytes
    (joined c.in_ok-push_counted-3.ensures.bytes
    (joined c.in_ok-push_counted-4.ensures.bytes
    (joined c.in_ok-push_counted-5.ensures.bytes
    (joined c.in_ok-push_counted-6.ensures.bytes
    (c.in_ok-push-2.ensures))))))))
