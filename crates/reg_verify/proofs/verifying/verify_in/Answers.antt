use Rattle.std.specs.Option.{option_copied}
use Rattle.reg_verify.specs.Strays.{Lists}
use Rattle.reg_verify.specs.Verifying.{Finds, TellsWhy}
use Rattle.reg_verify.proofs.Flaws.{handed_on, tells_noted}
use Rattle.reg_verify.proofs.verifying.verify_in.Goals as goal

pub returns-in_err-chain-clause-why : goal.returns-in_err-chain-clause-why
returns-in_err-chain-clause-why g c =
    let Found = Finds g.F.Reads.Tells g.F.Reads.held c.args.folder.now in
    let Names = Lists g.F.Reads.Tells g.F.Reads.listed c.args.folder.now in
    let noted = option_copied c.args.digits in
    handed_on (TellsWhy Found Names noted) c.from_residual.result
    c.in_err-chain.field-0.0 c.from_residual.ensures.1
    (tells_noted Found Names noted c.in_err-chain.field-0.0 c.in_err-chain.ensures.why)
