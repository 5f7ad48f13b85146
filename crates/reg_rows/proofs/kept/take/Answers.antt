use Rattle.reg_tables.proofs.EditLemmas.ByKey.{deleted_with}
use Rattle.reg_statements.specs.Parts.{pairs}
use Rattle.reg_statements.proofs.Defined.{row_gone}
use Rattle.reg_rows.proofs.Writing.{written}
use Rattle.reg_rows.proofs.kept.take.Goals as goal

pub returns-clause-steps : goal.returns-clause-steps
returns-clause-steps g c k is =
    let d = g.T.Kept.table in
    written c.in_ok-write.ensures.runs c.requires.takes.writes (λ ran was ties.
    row_gone d g.T.Kept.defined k _ _
    (deleted_with _ d.slot d.table (pairs d.key.width) (d.key.cells k) _ _ _ c.requires.takes
    was.office (rw is at ran)) was ties)
