use Rattle.reg_tables.proofs.EditLemmas.Putting.{puts}
use Rattle.reg_statements.specs.Defined.{with_columns}
use Rattle.reg_statements.proofs.Defined.{row_put}
use Rattle.reg_rows.proofs.Writing.{written}
use Rattle.reg_rows.proofs.kept.put.Goals as goal

pub returns-clause-steps : goal.returns-clause-steps
returns-clause-steps g c row form is =
    let d = g.T.Kept.table in
    let it = c.requires in
    written c.in_ok-write.ensures.runs it.writes (λ ran was ties.
    row_put d g.T.Kept.defined row (with_columns d row) _ _ form (λ r. it.keeps r row)
    (puts _ d.slot d.table it.terms it.index it.project _ _ (with_columns d row) _ _ _ (it.puts row)
    was.office (rw is at ran)) was ties)
