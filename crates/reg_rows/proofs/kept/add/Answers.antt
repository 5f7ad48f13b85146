use Rattle.reg_tables.proofs.GivenRows.{given_adds}
use Rattle.reg_statements.proofs.Defined.{row_added}
use Rattle.reg_rows.proofs.Writing.{added_row, written}
use Rattle.reg_rows.proofs.kept.add.Goals as goal

pub returns-clause-steps : goal.returns-clause-steps
returns-clause-steps g c row form is =
    let d = g.T.Kept.table in
    let it = c.requires in
    written c.in_ok-write.ensures.runs it.given.writes (λ ran was fits.
    let added = given_adds _ d.slot d.table it.given (d.values row) (it.long row) (it.kept row) in
    row_added d g.T.Kept.defined row _ _ form (added_row _ _ _ added was.office (rw is at ran)) was
    fits.0 fits.1)
