use Rattle.reg_files.proofs.Copied.{told_less}
use Rattle.reg_files.proofs.copies.FileCopiesCopies.copy.Goals as goal

pub returns : goal.returns
returns g c =
    told_less c.copy.result _ _ _ _ (λ version requests is. (is.0, is.2.told)) c.copy.ensures
