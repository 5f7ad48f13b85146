use Rattle.reg_pages.proofs.Pieces.{joined}
use Rattle.reg_site.proofs.registry.push_above_of.Goals as goal

pub returns : goal.returns
returns c =
    joined c.in_ok-push_start.ensures
    (joined c.in_ok-push_intro.ensures.bytes
    (joined c.in_ok-push_bar.ensures.bytes
    (joined c.in_ok-push.ensures
    (joined c.in_ok-push_range_rows.ensures.bytes c.in_ok-push-2.ensures))))
