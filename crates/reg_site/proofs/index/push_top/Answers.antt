use Rattle.reg_pages.proofs.Pieces.{shown}
use Rattle.reg_site.proofs.index.push_top.Goals as goal

pub returns : goal.returns
returns c =
    shown (rw (c.as_str.ensures.value, c.in_ok-text.ensures) at c.in_ok-push_all.ensures)
