use Rattle.reg_pages.proofs.Pieces.{joined, shown}
use Rattle.reg_site.proofs.bar.push_picture.Goals as goal

pub returns : goal.returns
returns c =
    shown
    (joined (rw (c.as_str.ensures.value, c.in_ok-view.ensures, c.cell_count.ensures.value) at c.in_ok-push_picture_start.ensures)
    (joined (rw c.as_slice.ensures at c.in_ok-push_shares.ensures).bytes
    (joined c.in_ok-push_entries.ensures.bytes
    (c.in_ok-push.ensures))))
