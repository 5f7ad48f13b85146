use Rattle.std.proofs.Common.{subst}
use Rattle.sqlite.specs.Held.{state}
use Rattle.reg_tables.specs.Having.{GainsEach}
use Rattle.reg_tables.specs.Making.{MakesEach}
use Rattle.reg_tables.specs.Version.{later_than}
use Rattle.reg_tables.proofs.MakeLemmas.{on_ok}
use Rattle.reg_tables.proofs.MigrateLemmas.{later_defined, later_made, later_named}
use Rattle.reg_migration.proofs.LaterBeside.{later_made_beside}
use Rattle.reg_migration.proofs.migrate.make_later.Goals as goal

pub returns-clause-made : goal.returns-clause-made
returns-clause-made g c clean =
    let old = state g.S.Store c.args.tx.now.conn.now in
    let new = state g.S.Store c.make_each.new.tx.conn.now in
    on_ok c.make_each.result (λ makes. later_made c.args.from old.now new.now
    (subst (λ texts. MakesEach texts old.now new.now) c.later_texts.ensures makes))
    (c.make_each.ensures.made clean)

pub returns-clause-gained : goal.returns-clause-gained
returns-clause-gained g c clean =
    let old = state g.S.Store c.args.tx.now.conn.now in
    let new = state g.S.Store c.make_each.new.tx.conn.now in
    on_ok c.make_each.result (λ gains.
    (subst (λ texts. GainsEach texts old.now.schema new.now.schema) c.later_texts.ensures gains)
    (later_than c.args.from) (later_defined c.args.from) (later_named c.args.from))
    (c.make_each.ensures.gained clean)

pub returns-clause-beside : goal.returns-clause-beside
returns-clause-beside g c clean =
    let old = state g.S.Store c.args.tx.now.conn.now in
    let new = state g.S.Store c.make_each.new.tx.conn.now in
    on_ok c.make_each.result (λ makes. later_made_beside c.args.from old.now new.now
    (subst (λ texts. MakesEach texts old.now new.now) c.later_texts.ensures makes))
    (c.make_each.ensures.made clean)
