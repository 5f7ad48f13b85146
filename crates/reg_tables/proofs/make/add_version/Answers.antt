use Rattle.std.proofs.Common.{refl, ◌∙◌}
use Rattle.sqlite.specs.Held.{state}
use Rattle.reg_tables.proofs.EditLemmas.Inserting.{tables_after_insert}
use Rattle.reg_tables.proofs.EditLemmas.Tables.{tables_if_empty}
use Rattle.reg_tables.proofs.GivenRows.{given_adds}
use Rattle.reg_tables.proofs.InsertLemmas.{adds}
use Rattle.reg_tables.proofs.InsertStatements.{adds_version}
use Rattle.reg_tables.proofs.Library.Casts.{cast_int}
use Rattle.reg_tables.specs.Making.{version_row}
use Rattle.reg_tables.specs.Version.{newest, number_of}
use Rattle.reg_tables.specs.Schema.{office_table}
use Rattle.reg_tables.specs.declared.texts.TheConstants as texts
use Rattle.reg_tables.proofs.Library.Writes.{written_schema}
use Rattle.reg_tables.proofs.InsertBeside.{adds_version_there}
use Rattle.reg_tables.proofs.make.add_version.Goals as goal

pub returns-clause-added : goal.returns-clause-added
returns-clause-added g c clean blank =
    let old = state g.S.Store c.args.tx.now.conn.now in
    let new = state g.S.Store c.run.new.tx.conn.now in
    let ran = rw c.number.ensures at (c.in_ok-run.ensures.runs.ran clean) in
    let a = given_adds texts.INSERT_VERSION.now 0 office_table adds_version version_row refl
    (rw (cast_int (number_of newest)) refl) in
    let row = adds _ _ _ _ _ a old new _ blank.has ran in (
      row,
      record {
        schema = row.schema ∙ blank.has;
        sound = row.sound;
        tables = tables_after_insert _ _ _ _ _ old new _ a.slot a.is a.plain a.counts blank.has
            (tables_if_empty old.now.trees blank.empty) ran;
      },
    )

pub returns-clause-defined : goal.returns-clause-defined
returns-clause-defined g c clean =
    written_schema _ _ (state g.S.Store c.args.tx.now.conn.now)
    (state g.S.Store c.run.new.tx.conn.now) _ adds_version.writes (c.in_ok-run.ensures.runs.ran clean)

pub returns-clause-anywhere : goal.returns-clause-anywhere
returns-clause-anywhere g c clean =
    let ran = rw c.number.ensures at (c.in_ok-run.ensures.runs.ran clean) in
    adds_version_there (state g.S.Store c.args.tx.now.conn.now)
    (state g.S.Store c.run.new.tx.conn.now) _ ran
