use Rattle.std.proofs.Common.{refl}
use Rattle.reg_records.specs.declared.links.Link.{Link}
use Rattle.reg_rows.proofs.Found.{absent}
use Rattle.reg_rows.proofs.Joining.{steps_in}
use Rattle.reg_content.proofs.links.add_agent.Goals as goal

pub returns-clause-steps : goal.returns-clause-steps
returns-clause-steps g c =
    let link : Link = record { principal = c.args.principal.now; agent = c.args.agent.now } in
    steps_in (c.add.ensures.steps link c.formed.ensures c.values.ensures)
    (λ db was none. ((absent _ none, λ tied. tied), refl))
