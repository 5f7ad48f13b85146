use Rattle.std.proofs.Common.{◌≡◌, ◌∙◌, sym, ap, arith}
use Rattle.std.specs.Fmt.{decimal}
use Rattle.std.proofs.lemmas.Bool.Decides.{nat_tests}
use Rattle.reg_client.proofs.Heads.{digits_are}
use Rattle.reg_client.proofs.answers.says.Goals as goal

pub returns-in-Some : goal.returns-in-Some
returns-in-Some c =
    λ same.
    let is : c.in-Some.said ≡ c.args.number = grind (arith, nat_tests) in
    digits_are c.args.digits.now c.in-Some.said (sym c.in-Some.ensures) ∙ ap decimal is
