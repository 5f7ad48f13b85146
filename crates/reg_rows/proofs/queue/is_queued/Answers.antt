use Rattle.std.proofs.Common.{ap, is_some, ◌∙◌}
use Rattle.reg_core.specs.World.{Seat}
use Rattle.reg_rows.proofs.Found.{made_some}
use Rattle.reg_rows.proofs.Looking.{looks_made}
use Rattle.reg_rows.proofs.Statements.{finds_seat}
use Rattle.reg_rows.proofs.queue.is_queued.Goals as goal

pub returns : goal.returns
returns g c =
    let wanted : Seat = ((c.args.account.now, c.args.reference.now), c.args.expert.now) in
    looks_made c.in_ok-seat.ensures.row (λ p is.
    c.is_some.ensures
    ∙ ap is_some (is.at_key wanted (rw (
      c.name_value.ensures,
      c.name_value-2.ensures,
      c.name_value-3.ensures,
    ) (finds_seat wanted)))
    ∙ made_some _ _)
