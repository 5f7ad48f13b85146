use Rattle.reg_pages.proofs.Pieces.{joined, shown}
use Rattle.reg_site.proofs.registry.push_entry_texts.Goals as goal

pub returns : goal.returns
returns c =
    shown
    (joined c.in_ok-push_described.ensures
    (joined c.in_ok-push.ensures
    (joined (rw c.reference_in.ensures at c.in_ok-push_reference.ensures).bytes
    c.in_ok-push_all.ensures)))
