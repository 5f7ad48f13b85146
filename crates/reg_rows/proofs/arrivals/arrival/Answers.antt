use Rattle.std.proofs.Common.{ap, ◌∙◌}
use Rattle.std.specs.Prelude.{find, reverse}
use Rattle.reg_core.specs.Times.{submits}
use Rattle.reg_core.specs.World.{RequestName}
use Rattle.reg_records.specs.declared.acts.NumberedAct.{NumberedAct}
use Rattle.reg_rows.specs.Arrivals.{arrival_by}
use Rattle.reg_rows.proofs.ArrivalRows.{arrival_of_rows}
use Rattle.reg_rows.proofs.Looking.{looks_tied}
use Rattle.reg_rows.proofs.Statements.{lists_acts_about}
use Rattle.reg_rows.proofs.arrivals.arrival.Goals as goal

pub returns : goal.returns
returns g c =
    let name : RequestName = (c.args.account.now, c.args.reference.now) in
    looks_tied c.requires c.in_ok-rows.ensures.rows (λ p ties is.
    c.last_arrival.ensures
    ∙ ap (λ rows. arrival_by (find (λ (n : NumberedAct). submits name n.act.deed) (reverse rows)))
    (c.as_slice.ensures.value ∙ is _ (rw (c.name_value.ensures, c.name_value-2.ensures) (lists_acts_about c.args.account.now c.args.reference.now)))
    ∙ arrival_of_rows name p ties)
