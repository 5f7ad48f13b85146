use Rattle.std.proofs.Common.{ℕ, List, sym, ap, ◌∙◌}
use Rattle.reg_parse.specs.Command.{asked}
use Rattle.reg_program.proofs.Gotten.{gotten_looks}
use Rattle.reg_program.proofs.requests.command.Goals as goal

pub returns-in-Ok-clause-looks : goal.returns-in-Ok-clause-looks
returns-in-Ok-clause-looks c =
    λ is. gotten_looks c.args.path.now c.args.body.now c.in-Ok.command
    (ap (λ (m : List ℕ). asked m c.args.path.now c.args.body.now) (sym is) ∙ c.in-Ok.ensures.spelled)
