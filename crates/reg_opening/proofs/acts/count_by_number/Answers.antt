use Rattle.std.proofs.Common.{inl, inr, refl}
use Rattle.sqlite.specs.Held.{state}
use Rattle.reg_tables.specs.declared.texts.TheConstants.{SELECT_JOURNAL}
use Rattle.reg_tables.proofs.Statements.{all_acts}
use Rattle.reg_statements.specs.Office as office
use Rattle.reg_statements.proofs.ReadLemmas.{passed_on}
use Rattle.reg_opening.proofs.ActsRead.{acts_shown, counted_in_order, uncounted_in_order}
use Rattle.reg_opening.proofs.Causes.{ordered_cause}
use Rattle.reg_opening.proofs.acts.count_by_number.Goals as goal

pub all-requires-clause-plain : goal.all-requires-clause-plain
all-requires-clause-plain g c = all_acts.plain

pub returns-in-Some-clause-counts : goal.returns-in-Some-clause-counts
returns-in-Some-clause-counts g c works begins =
    let old = state g.S.Store c.args.conn.now in
    let new = state g.S.Store c.all.new.conn in
    let found = c.in_ok-rows.ensures.rows works in
    let is = rw c.as_slice.ensures.value at c.in-Some.ensures in
    counted_in_order (old.now.trees office.journal.table.tree) found.0 c.in_ok-rows.rows.items
    (acts_shown old new found.0 begins found.1) found.2 c.in_ok-rows.ensures.ascending
    c.in-Some.last is

pub returns-clause-counts : goal.returns-clause-counts
returns-clause-counts g c works begins =
    let old = state g.S.Store c.args.conn.now in
    let new = state g.S.Store c.all.new.conn in
    let found = c.in_ok-rows.ensures.rows works in
    let is = rw c.as_slice.ensures.value at c.in-None.ensures in
    uncounted_in_order (old.now.trees office.journal.table.tree) found.0 c.in_ok-rows.rows.items
    (acts_shown old new found.0 begins found.1) found.2 c.in_ok-rows.ensures.ascending is

pub returns-in_err-rows-clause-fault : goal.returns-in_err-rows-clause-fault
returns-in_err-rows-clause-fault g c =
    passed_on _ c.from_residual.result c.in_err-rows.field-0.0 c.from_residual.ensures.1
    (ordered_cause SELECT_JOURNAL.now c.args.conn.now c.all.new.conn _ c.in_err-rows.ensures.stays
    inl (λ rows is. inr (refl, is)) c.in_err-rows.ensures.fault)
