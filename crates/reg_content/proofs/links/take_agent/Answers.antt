use Rattle.std.proofs.Common.{refl}
use Rattle.reg_core.specs.World.{Link}
use Rattle.reg_rows.proofs.Joining.{steps_in}
use Rattle.reg_content.proofs.links.take_agent.Goals as goal

pub returns-clause-steps : goal.returns-clause-steps
returns-clause-steps g c =
    let link : Link = (c.args.principal.now, c.args.agent.now) in
    steps_in (c.take.ensures.steps link (rw (c.name_value.ensures, c.name_value-2.ensures) refl))
    (λ db was any. ((λ tied. tied), refl))
