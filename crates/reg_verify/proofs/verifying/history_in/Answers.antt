use Rattle.std.proofs.Common.{List, ℕ, None, subst}
use Rattle.reg_history.specs.History.{TellsWrong}
use Rattle.reg_verify.specs.Flaws.{unreadable_as}
use Rattle.reg_verify.specs.Strays.{Lists}
use Rattle.reg_verify.specs.Verifying.{Finds, TellsWhy}
use Rattle.reg_verify.proofs.Flaws.{handed_on, tells_unreadable}
use Rattle.reg_verify.proofs.verifying.history_in.Goals as goal

pub returns-in_err-read-clause-why : goal.returns-in_err-read-clause-why
returns-in_err-read-clause-why g c =
    let Found = Finds g.F.Reads.Tells g.F.Reads.held c.args.folder.now in
    let Names = Lists g.F.Reads.Tells g.F.Reads.listed c.args.folder.now in
    let why = c.in_err-read.field-0.0 in
    let Wrong : List ℕ → Type 0 = λ t. TellsWrong t why in
    handed_on (TellsWhy Found Names None) c.from_residual-in_err-read.result (unreadable_as why)
    c.from_residual-in_err-read.ensures.1
    (tells_unreadable Found Names c.in_ok-text.text.items why c.in_ok-text.ensures.bytes
    (subst Wrong c.as_slice.ensures.value c.in_err-read.ensures.wrong))
