use Rattle.std.proofs.Common.{subst, sym}
use Rattle.reg_program.specs.Inputs.{AreKnown, token_in}
use Rattle.reg_program.specs.Performing.{IsFounding}
use Rattle.reg_program.proofs.Carried.{carries}
use Rattle.reg_program.proofs.performing.init.Goals as goal

pub returns : goal.returns
returns g c =
    let said = subst (AreKnown (token_in c.args.clerk.now)) (sym c.as_slice-clerk.ensures.value)
    c.in_ok-token.ensures in
    carries (g.O.Offices.Carried c.args.offices.now c.carry_out.new.offices) _ c.args.file.now
    (IsFounding c.args.clerk.now) _ _ c.carry_out.result c.carry_out.ensures said
