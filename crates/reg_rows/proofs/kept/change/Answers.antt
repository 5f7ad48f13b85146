use Rattle.std.proofs.Common.{◌∷◌}
use Rattle.sqlite.specs.Term.{col}
use Rattle.sqlite.specs.Values.{bound}
use Rattle.reg_tables.specs.Editing.{has_all}
use Rattle.reg_tables.specs.Selecting.{shows}
use Rattle.reg_tables.proofs.EditLemmas.ByKey.{cells, changed_with}
use Rattle.reg_statements.proofs.Defined.{rows_changed}
use Rattle.reg_rows.proofs.Writing.{written}
use Rattle.reg_rows.proofs.kept.change.Goals as goal

pub returns-clause-steps : goal.returns-clause-steps
returns-clause-steps g c test can changed it =
    let d = g.T.Kept.table in
    let params = bound c.args.params.now in
    written c.in_ok-write.ensures.runs c.requires (λ ran was fits.
    rows_changed d g.T.Kept.defined (has_all (cells it.at params))
    (shows (col 1 0 ∷ it.terms) params) test changed _ _ it.agree
    (λ row t is held passes. it.becomes row t is (fits.0 _ _ held passes))
    (changed_with _ d.slot d.table it.at it.terms params _ _ _ it.changes was.office ran) was fits.1)
