use Rattle.std.proofs.Common.{◌⊎◌, inl, refl, true}
use Rattle.sqlite.specs.Held.{state}
use Rattle.reg_tables.specs.Connection.{Holds}
use Rattle.reg_sql.proofs.Failed.{given_up}
use Rattle.reg_sql.proofs.Founded.{blank, counts_founded, founded_alone, founded_empty, keeps_founded}
use Rattle.reg_sql.proofs.open.found.Goals as goal

pub returns-in-Ok-clause-keeps : goal.returns-in-Ok-clause-keeps
returns-in-Ok-clause-keeps g c =
    let old = state g.S.Store c.args.conn.now in
    let new = state g.S.Store c.make_office.new.conn in
    let founds = c.in-Ok.ensures.founds in
    let founded = λ (h : Holds new).
    (founded_alone old new (founds h.works).gained (founds h.works).made h).1 in
    record {
      office = keeps_founded new c.make_office.ensures.rest founded _ c.new.ensures;
      counts = counts_founded new founded;
    }

pub returns-in-Ok-clause-has : goal.returns-in-Ok-clause-has
returns-in-Ok-clause-has g c works = (c.in-Ok.ensures.founds works).gained.has

pub returns-in-Ok-clause-alone : goal.returns-in-Ok-clause-alone
returns-in-Ok-clause-alone g c works none =
    ((c.in-Ok.ensures.founds works).made (blank _ none)).office.schema

pub returns-in-Ok-clause-empty : goal.returns-in-Ok-clause-empty
returns-in-Ok-clause-empty g c h =
    let old = state g.S.Store c.args.conn.now in
    let new = state g.S.Store c.make_office.new.conn in
    let founds = c.in-Ok.ensures.founds in
    let both = founded_alone old new (founds h.works).gained (founds h.works).made h in
    (both.0, founded_empty new.now both.1)

pub returns-in-Ok-clause-beside : goal.returns-in-Ok-clause-beside
returns-in-Ok-clause-beside g c works = (c.in-Ok.ensures.founds works).beside

pub returns-in-Err-clause-cause : goal.returns-in-Err-clause-cause
returns-in-Err-clause-cause g c =
    given_up g.S.Store g.S.Reports.Reported
    (g.S.Loads.Unloaded ⊎ g.S.Grows.Ungrown) true _ _ _ c.in-Err.error _ c.fault.ensures
    (λ works seen founds. inl (record { wanted = refl; free = c.requires.free; founds = founds }))
    c.in-Err.ensures.given_up
