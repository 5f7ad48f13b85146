use Rattle.reg_pages.proofs.Pieces.{joined, shown}
use Rattle.reg_site.proofs.index.push_registry.Goals as goal

pub returns : goal.returns
returns c =
    shown
    (joined (rw (c.title_in.ensures, c.as_str.ensures.text) at c.in_ok-push_name.ensures)
    (joined c.in_ok-push.ensures
    (joined (rw c.as_slice.ensures at c.in_ok-push_shares.ensures).bytes
    c.in_ok-push_all.ensures)))
