use Rattle.reg_pages.proofs.Pieces.{joined, shown}
use Rattle.reg_site.proofs.records.push_record_texts.Goals as goal

pub returns : goal.returns
returns c =
    shown
    (joined c.in_ok-push_record_start.ensures
    (joined c.in_ok-push_all.ensures
    (joined (rw c.reference_in.ensures at c.in_ok-push_xref.ensures).bytes c.in_ok-push.ensures)))
