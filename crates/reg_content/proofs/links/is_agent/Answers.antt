use Rattle.std.proofs.Common.{ap, is_some, ◌∙◌}
use Rattle.reg_core.specs.World.{Link}
use Rattle.reg_rows.proofs.Found.{made_some}
use Rattle.reg_rows.proofs.Looking.{looks_made}
use Rattle.reg_rows.proofs.Statements.{finds_link}
use Rattle.reg_content.proofs.links.is_agent.Goals as goal

pub returns : goal.returns
returns g c =
    let link : Link = (c.args.principal.now, c.args.agent.now) in
    looks_made c.in_ok-link.ensures.row (λ p is.
    c.is_some.ensures
    ∙ ap is_some (is.at_key link (rw (c.name_value.ensures, c.name_value-2.ensures)
    (finds_link link)))
    ∙ made_some _ _)
