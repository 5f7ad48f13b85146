use Rattle.std.proofs.Common.{◌⊎◌, subst, sym}
use Rattle.sqlite.specs.Held.{state}
use Rattle.reg_sql.specs.Failing.{IsCaused}
use Rattle.reg_sql.proofs.Failed.{caused_by_refusal}
use Rattle.reg_sql.proofs.look.adopted.Goals as goal

pub returns-in-Ok-clause-worked : goal.returns-in-Ok-clause-worked
returns-in-Ok-clause-worked g c works = (c.in-Ok.ensures.taken works).0

pub returns-in-Err-clause-refused : goal.returns-in-Err-clause-refused
returns-in-Err-clause-refused g c = record {
  refusal = c.in-Err.fault;
  told = c.from.ensures;
  refused = record { unchanged = c.in-Err.ensures.unchanged; refused = c.in-Err.ensures.refused };
}

pub returns-in-Err-clause-cause : goal.returns-in-Err-clause-cause
returns-in-Err-clause-cause g c =
    let refused = g.S.Loads.Unloaded ⊎ g.S.Grows.Ungrown in
    let old = state g.S.Store c.args.conn in
    let new = state g.S.Store c.in-Err.conn in
    subst (IsCaused g.S.Reports.Reported refused g.S.Store old new) (sym c.from.ensures)
    (caused_by_refusal g.S.Store g.S.Reports.Reported refused old new c.in-Err.fault c.in-Err.ensures.cause)
