use Rattle.reg_pages.proofs.Pieces.{joined, shown}
use Rattle.reg_site.proofs.changes.push_row.Goals as goal

pub returns : goal.returns
returns c =
    shown
    (joined c.in_ok-push_all.ensures
    (joined c.in_ok-push_place.ensures c.in_ok-push_all-2.ensures))
