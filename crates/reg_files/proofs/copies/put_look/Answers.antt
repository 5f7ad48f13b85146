use Rattle.std.proofs.Common.{ap, ◌∙◌, to_z, of_z, w64}
use Rattle.reg_files.proofs.Copied.{kept_number, told_less}
use Rattle.reg_files.proofs.copies.put_look.Goals as goal

pub returns-clause-printed : goal.returns-clause-printed
returns-clause-printed g c =
    told_less c.copy_in.result _ _ _ _
    (λ version requests is.
    (is.0 ∙ ap (λ z. to_z w64 (of_z w64 z)) c.number-version.ensures ∙ kept_number _, is.1))
    c.copy_in.ensures.printed
