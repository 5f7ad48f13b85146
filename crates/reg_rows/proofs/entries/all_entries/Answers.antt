use Rattle.sqlite.specs.Held.{state}
use Rattle.reg_tables.proofs.RestLemmas.{stays_held}
use Rattle.reg_tables.proofs.SelectLemmas.{office_begins}
use Rattle.reg_statements.specs.Office as office
use Rattle.reg_statements.proofs.Defined.{all_in_order}
use Rattle.reg_statements.proofs.Office as laws
use Rattle.reg_rows.proofs.Looking.{with_both}
use Rattle.reg_rows.proofs.Statements.{shows_entries}
use Rattle.reg_rows.proofs.entries.all_entries.Goals as goal

pub returns-clause-table : goal.returns-clause-table
returns-clause-table g c h =
    let old = state g.S.Store c.args.conn.now in
    let new = state g.S.Store c.all.new.conn in
    with_both c.all.result _ _ _ c.all.ensures.ascending (c.all.ensures.rows h.works) (λ rows up it.
    (all_in_order office.entries laws.entries _ shows_entries old new it.0 rows.items
    (office_begins 5 (stays_held c.all.ensures.stays h).tables) it.1 it.2 up).0)

pub returns-clause-rows : goal.returns-clause-rows
returns-clause-rows g c h =
    let old = state g.S.Store c.args.conn.now in
    let new = state g.S.Store c.all.new.conn in
    with_both c.all.result _ _ _ c.all.ensures.ascending (c.all.ensures.rows h.works) (λ rows up it.
    (all_in_order office.entries laws.entries _ shows_entries old new it.0 rows.items
    (office_begins 5 (stays_held c.all.ensures.stays h).tables) it.1 it.2 up).1)
