use Rattle.std.proofs.Common.{ap, is_some, ◌∙◌}
use Rattle.reg_core.specs.World.{Place}
use Rattle.reg_rows.proofs.Found.{made_some}
use Rattle.reg_rows.proofs.Looking.{looks_told}
use Rattle.reg_rows.proofs.Statements.{finds_hold}
use Rattle.reg_rows.proofs.holds.is_held.Goals as goal

pub returns : goal.returns
returns g c =
    let place : Place = (c.args.registry.now, c.args.value) in
    looks_told c.in_ok-found.ensures.row (λ p is.
    c.is_some.ensures
    ∙ ap is_some (is.at_key place (rw (c.name_value.ensures, c.number_value.ensures)
    (finds_hold place)))
    ∙ made_some _ _)
