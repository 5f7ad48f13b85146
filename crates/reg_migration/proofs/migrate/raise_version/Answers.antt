use Rattle.sqlite.specs.Held.{state}
use Rattle.reg_tables.specs.Version.{newest, number_of}
use Rattle.reg_tables.proofs.EditLemmas.Changing.{changes}
use Rattle.reg_tables.proofs.EditStatements.{change_version_writes, version_changes}
use Rattle.reg_tables.proofs.Library.Writes.{written_schema}
use Rattle.reg_tables.proofs.MigrateLemmas.{raised}
use Rattle.reg_migration.proofs.RaiseBeside.{raises_version}
use Rattle.reg_migration.proofs.migrate.raise_version.Goals as goal

pub returns-clause-raised : goal.returns-clause-raised
returns-clause-raised g c clean n office version =
    let old = state g.S.Store c.args.tx.now.conn.now in
    let new = state g.S.Store c.run.new.tx.conn.now in
    let ran = rw c.number.ensures at (c.in_ok-run.ensures.runs.ran clean) in
    raised n old.now new.now
    (changes _ _ _ _ _ _ old new _ (version_changes (number_of newest)) office.schema office.sound
    office.tables.0 ran) office version

pub returns-clause-defined : goal.returns-clause-defined
returns-clause-defined g c clean =
    written_schema _ _ (state g.S.Store c.args.tx.now.conn.now)
    (state g.S.Store c.run.new.tx.conn.now) _ change_version_writes (c.in_ok-run.ensures.runs.ran clean)

pub returns-clause-anywhere : goal.returns-clause-anywhere
returns-clause-anywhere g c clean at sole =
    let ran = rw c.number.ensures at (c.in_ok-run.ensures.runs.ran clean) in
    raises_version (state g.S.Store c.args.tx.now.conn.now) (state g.S.Store c.run.new.tx.conn.now) _ at sole ran
