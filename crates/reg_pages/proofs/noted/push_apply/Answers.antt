use Rattle.reg_pages.proofs.Pieces.{joined, shown}
use Rattle.reg_pages.proofs.noted.push_apply.Goals as goal

pub returns : goal.returns
returns c =
    shown
    (joined (rw (c.reference_in.ensures, c.note_on.ensures) at c.in_ok-push_apply_at.ensures).bytes
    (rw c.note_on-2.ensures at c.in_ok-push_noted.ensures).bytes)
