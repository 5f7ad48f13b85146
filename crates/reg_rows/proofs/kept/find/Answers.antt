use Rattle.std.proofs.Common.{subst, option_to_list}
use Rattle.std.proofs.lemmas.Result.{IfOk-weaker}
use Rattle.sqlite.specs.Held.{state}
use Rattle.sqlite.specs.Values.{bound}
use Rattle.reg_tables.proofs.RestLemmas.{stays_held}
use Rattle.reg_statements.specs.Loading.{ReadAs}
use Rattle.reg_statements.proofs.Defined.{row_found}
use Rattle.reg_rows.proofs.Looking.{looks}
use Rattle.reg_rows.proofs.kept.find.Goals as goal

pub returns-clause-row : goal.returns-clause-row
returns-clause-row g c =
    let old = state g.S.Store c.args.conn.now in
    let new = state g.S.Store c.one.new.conn in
    looks c.requires.keeping c.one.ensures.idle c.one.ensures.endures c.one.ensures.stays (λ h.
    let was = c.requires.keeping.stored (stays_held c.one.ensures.stays h) in
    IfOk-weaker c.one.result _ _ (λ found it.
    row_found g.T.Kept.table g.T.Kept.defined c.args.sql.now (bound c.args.params.now) old new it.0
    found was it.1
    (subst (λ of. ReadAs of it.0 (option_to_list found)) g.met.T.Kept.reads it.2))
    (c.one.ensures.row h.works))
