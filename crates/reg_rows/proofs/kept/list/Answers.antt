use Rattle.std.proofs.Common.{subst}
use Rattle.sqlite.specs.Held.{state}
use Rattle.sqlite.specs.Values.{bound}
use Rattle.reg_tables.proofs.RestLemmas.{stays_held}
use Rattle.reg_statements.specs.Loading.{IsAscending, ReadAs}
use Rattle.reg_statements.proofs.Defined.{rows_listed}
use Rattle.reg_rows.proofs.Looking.{looks, with_both}
use Rattle.reg_rows.proofs.kept.list.Goals as goal

pub returns-clause-rows : goal.returns-clause-rows
returns-clause-rows g c =
    let old = state g.S.Store c.args.conn.now in
    let new = state g.S.Store c.all.new.conn in
    looks c.requires.keeping c.all.ensures.idle c.all.ensures.endures c.all.ensures.stays (λ h.
    let was = c.requires.keeping.stored (stays_held c.all.ensures.stays h) in
    with_both c.all.result _ _ _ c.all.ensures.ascending (c.all.ensures.rows h.works)
    (λ rows up it test chooses.
    rows_listed g.T.Kept.table g.T.Kept.defined c.args.sql.now (bound c.args.params.now) test
    chooses old new it.0 was it.1 rows.items
    (subst (λ of. ReadAs of it.0 rows.items) g.met.T.Kept.reads it.2)
    (subst (λ order. IsAscending order rows.items) g.met.T.Kept.compares up)))
