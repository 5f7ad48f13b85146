use Rattle.reg_pages.proofs.Pieces.{joined, shown}
use Rattle.reg_site.proofs.index.push_items.Goals as goal

pub returns : goal.returns
returns c =
    shown
    (joined c.in_ok-push.ensures
    (joined c.in_ok-push_prefixes.ensures.bytes c.in_ok-push-2.ensures))
