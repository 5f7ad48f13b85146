use Rattle.std.proofs.Common.{◌≤◌, length, reverse, ap, sym, ◌∙◌, arith, if◌then◌else◌}
use Rattle.std.specs.Prelude.{Some, find}
use Rattle.std.proofs.lemmas.List.{take_all}
use Rattle.reg_core.specs.Times.{submits}
use Rattle.reg_core.specs.World.{RequestName}
use Rattle.reg_records.specs.declared.acts.NumberedAct.{NumberedAct}
use Rattle.reg_rows.specs.Arrivals.{arrival_by}
use Rattle.reg_rows.proofs.ArrivalRows.{arrival-next}
use Rattle.reg_rows.proofs.arrivals.last_arrival.Goals as goal

pub loop-row-preserved : goal.loop-row-preserved
loop-row-preserved c =
    let name : RequestName = (c.args.account.now, c.args.reference.now) in
    let row = c.row-item.result in
    c.arrival_after-found.ensures
    ∙ ap (λ found. if submits name row.act.deed then arrival_by (Some row) else found)
    c.loop-row.invariant
    ∙ arrival-next name c.args.rows.now c.loop-row.row-index row c.loop-row-test.true
    (sym c.row-item.is)

pub returns : goal.returns
returns c =
    let name : RequestName = (c.args.account.now, c.args.reference.now) in
    let long : length c.args.rows.now ≤ c.loop-row.row-index = omega (arith, c.loop-row-test.false) in
    c.loop-row.invariant
    ∙ ap (λ rows. arrival_by (find (λ (n : NumberedAct). submits name n.act.deed) (reverse rows)))
    (take_all c.loop-row.row-index c.args.rows.now long)
