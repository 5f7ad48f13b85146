use Rattle.reg_files.proofs.Told.{tells_less}
use Rattle.reg_files.proofs.copies.FileCopiesCopies.tell_acts.Goals as goal

pub returns : goal.returns
returns g c =
    tells_less _ _ _ _ _ (λ acts is. (is.0, is.2)) c.tell_acts.result c.tell_acts.ensures
