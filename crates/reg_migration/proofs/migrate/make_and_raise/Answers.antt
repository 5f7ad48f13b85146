use Rattle.std.proofs.Common.{Err, Ok, OnOk, Result, arith}
use Rattle.sqlite.specs.Held.{state}
use Rattle.sqlite.specs.State.{HasCleanDisk}
use Rattle.reg_tables.proofs.Library.GrowingSchemas.{gains_as}
use Rattle.reg_tables.proofs.MakeLemmas.{on_ok}
use Rattle.reg_tables.proofs.MigrateLemmas.{migrated, version_kept}
use Rattle.reg_migration.proofs.LaterBeside.{still_sole, upgraded_beside}
use Rattle.reg_migration.proofs.migrate.make_and_raise.Goals as goal

on_both : {A E P Q R : Type 0} (r : Result A E) → (P → Q → R) → OnOk r P → OnOk r Q → OnOk r R
on_both (Ok a) f p q = f p q
on_both (Err e) f p q = tt

pub returns-clause-migrated : goal.returns-clause-migrated
returns-clause-migrated g c clean =
    let old = state g.S.Store c.args.tx.now.conn.now in
    let mid = state g.S.Store c.make_later.new.tx.conn.now in
    let new = state g.S.Store c.raise_version.new.tx.conn.now in
    let was_clean : HasCleanDisk mid = omega (arith, c.raise_version.ensures.inside.clean) in
    on_ok c.raise_version.result (λ raises office version.
    let has = c.in_ok-make_later.ensures.made was_clean office in
    migrated c.args.from old.now mid.now new.now has
    (raises _ has.office (version_kept c.args.from old.now mid.now has version)))
    (c.raise_version.ensures.raised clean)

pub returns-clause-gained : goal.returns-clause-gained
returns-clause-gained g c clean =
    let mid = state g.S.Store c.make_later.new.tx.conn.now in
    let was_clean : HasCleanDisk mid = omega (arith, c.raise_version.ensures.inside.clean) in
    on_ok c.raise_version.result
    (λ same. gains_as same (c.in_ok-make_later.ensures.gained was_clean))
    (c.raise_version.ensures.defined clean)

pub returns-clause-beside : goal.returns-clause-beside
returns-clause-beside g c clean =
    let old = state g.S.Store c.args.tx.now.conn.now in
    let mid = state g.S.Store c.make_later.new.tx.conn.now in
    let new = state g.S.Store c.raise_version.new.tx.conn.now in
    let was_clean : HasCleanDisk mid = omega (arith, c.raise_version.ensures.inside.clean) in
    let makes = c.in_ok-make_later.ensures.beside was_clean in
    on_both c.raise_version.result (λ defined raises. record {
      beside = λ at counter sole said.
          upgraded_beside c.args.from old.now mid.now new.now at makes counter sole defined
          (raises _ (still_sole c.args.from old.now mid.now new.now at makes counter sole)) said;
    })
    (c.raise_version.ensures.defined clean) (c.raise_version.ensures.anywhere clean)
