use Rattle.std.proofs.Common.{inl, refl}
use Rattle.sqlite.specs.Held.{state}
use Rattle.reg_statements.proofs.ReadLemmas.{passed_on}
use Rattle.reg_opening.proofs.Causes.{ordered_cause}
use Rattle.reg_opening.proofs.RowidLemmas.{keyed_shown}
use Rattle.reg_opening.proofs.rowids.check_table.Goals as goal

pub returns-clause-keyed : goal.returns-clause-keyed
returns-clause-keyed g c h begins t order selects =
    let old = state g.S.Store c.args.conn.now in
    let new = state g.S.Store c.all.new.conn in
    let found = c.in_ok-all.ensures.rows h in
    keyed_shown c.args.sql.now t order old new found.0 c.in_ok-all.field-0.items selects
    begins found.1 found.2
    c.in_ok-all.ensures.ascending

pub returns-in_err-all-clause-fault : goal.returns-in_err-all-clause-fault
returns-in_err-all-clause-fault g c =
    passed_on _ c.from_residual.result c.in_err-all.field-0.0 c.from_residual.ensures.1
    (ordered_cause c.args.sql.now c.args.conn.now c.all.new.conn _
    c.in_err-all.ensures.stays inl (λ rows is. (refl, is)) c.in_err-all.ensures.fault)
