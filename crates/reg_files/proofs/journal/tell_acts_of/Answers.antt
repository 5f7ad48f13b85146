use Rattle.reg_files.proofs.Told.{tells_less, untold}
use Rattle.reg_files.proofs.journal.tell_acts_of.Goals as goal

pub returns : goal.returns
returns g c =
    tells_less _ _ _ _ _
    (λ acts is. (c.in_ok-snapshot.snapshot, c.in_ok-snapshot.ensures.taken, is)) c.tell.result
    c.tell.ensures

pub returns-in_err-snapshot : goal.returns-in_err-snapshot
returns-in_err-snapshot g c =
    untold _ _ _ c.in_err-snapshot.field-0.0 c.in_err-snapshot.ensures.untold
    c.from_residual.result c.from_residual.ensures.1
