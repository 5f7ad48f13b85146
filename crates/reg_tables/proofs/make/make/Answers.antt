use Rattle.sqlite.specs.Held.{state}
use Rattle.reg_tables.specs.Having.{unplaced}
use Rattle.reg_tables.proofs.Library.Creating.{comes}
use Rattle.reg_tables.proofs.Library.GrowingSchemas.{gains}
use Rattle.reg_tables.proofs.MakeLemmas.{counter_stays}
use Rattle.reg_tables.proofs.make.make.Goals as goal

pub returns-clause-made : goal.returns-clause-made
returns-clause-made g c clean schema table it none uncounted has =
    let old = state g.S.Store c.args.tx.now.conn.now in
    let new = state g.S.Store c.run.new.tx.conn.now in
    comes c.args.text.now (unplaced table) it old new _ (c.in_ok-run.ensures.runs.ran clean) schema
    (counter_stays schema (unplaced table) none uncounted) has

pub returns-clause-gained : goal.returns-clause-gained
returns-clause-gained g c clean table it own =
    let old = state g.S.Store c.args.tx.now.conn.now in
    let new = state g.S.Store c.run.new.tx.conn.now in
    gains c.args.text.now table it own old new _ (c.in_ok-run.ensures.runs.ran clean)
