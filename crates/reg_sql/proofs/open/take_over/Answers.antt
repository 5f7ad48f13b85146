use Rattle.std.proofs.Common.{◌⊎◌, IfErr, IsTrue, ap, inl, subst, sym, rules, ◌∙◌}
use Rattle.sqlite.specs.Held.{state}
use Rattle.reg_opening.specs.declared.kind.Found.TheVariants as finding
use Rattle.reg_tables.specs.Connection.{IsIdle}
use Rattle.reg_sql.specs.Failing.{IsFailed}
use Rattle.reg_sql.specs.Opening.{TakesOver}
use Rattle.reg_statements.proofs.ReadLemmas.{passed_on}
use Rattle.reg_sql.specs.declared.open.OpenFault.TheVariants as refusals
use Rattle.reg_sql.proofs.Failed.{failed_later}
use Rattle.reg_sql.proofs.Taking.{found_still, founded_over, not_ours_over, older_over, ours_over, version_over}
use Rattle.reg_sql.proofs.open.take_over.Goals as goal

-- ---- What founding and bringing ask for

pub found-requires-clause-free : goal.found-requires-clause-free
found-requires-clause-free g c =
    let told : IsTrue c.in_ok-is_to_found.field-0 = search rules in
    (c.in_ok-is_to_found.ensures.told.sure told).1

pub bring-requires-clause-version : goal.bring-requires-clause-version
bring-requires-clause-version g c =
    let other = c.if-is_newest.false in
    λ is. let told = c.is_newest.ensures.1 is in absurd (cc)

pub bring-requires-clause-found : goal.bring-requires-clause-found
bring-requires-clause-found g c =
    let old = state g.S.Store c.args.conn.now in
    let new = state g.S.Store c.find.new.conn in
    found_still c.args.fresh old new (search rules) c.in_ok-version.field-0 c.in_ok-version.ensures.finds
    c.in-Ours.version c.in-Ours.beside c.in-Ours.is

-- ---- What becomes of the store

pub returns-then-branch-clause-takes : goal.returns-then-branch-clause-takes
returns-then-branch-clause-takes g c =
    let old = state g.S.Store c.args.conn.now in
    let new = state g.S.Store c.found.new.conn in
    let told : IsTrue c.in_ok-is_to_found.field-0 = search rules in
    let wanted = c.in_ok-is_to_found.ensures.told.sure told in
    let idle : IsIdle old = search rules in
    let found = c.found.ensures in
    subst (λ fresh. TakesOver fresh old new c.found.result) (sym wanted.0)
    (founded_over old new idle wanted.1 c.found.result found.rest found.worked found.keeps found.has found.alone
    found.empty found.beside found.live found.fault found.unchanged)

pub returns-in-Ours-clause-takes : goal.returns-in-Ours-clause-takes
returns-in-Ours-clause-takes g c =
    let old = state g.S.Store c.args.conn.now in
    let new = state g.S.Store c.find.new.conn in
    let version = c.is_newest.ensures.0 c.if-is_newest.true in
    ours_over c.args.fresh old new (search rules) c.in_ok-version.field-0 c.in_ok-version.ensures.finds c.in-Ours.beside
    (c.in-Ours.is ∙ ap (λ v. finding.Ours v c.in-Ours.beside) version)

pub returns-in-Ours-2-clause-takes : goal.returns-in-Ours-2-clause-takes
returns-in-Ours-2-clause-takes g c =
    let old = state g.S.Store c.args.conn.now in
    let new = state g.S.Store c.find.new.conn in
    let last = state g.S.Store c.bring.new.conn in
    let other = c.if-is_newest.false in
    older_over c.args.fresh old new (search rules) c.in_ok-version.field-0 c.in_ok-version.ensures.finds c.in-Ours.version
    c.in-Ours.beside c.in-Ours.is
    (λ is. let told = c.is_newest.ensures.1 is in absurd (cc)) last c.bring.result c.bring.ensures.brings

pub returns-in-OtherVersion-clause-takes : goal.returns-in-OtherVersion-clause-takes
returns-in-OtherVersion-clause-takes g c =
    let old = state g.S.Store c.args.conn.now in
    let new = state g.S.Store c.find.new.conn in
    let over = version_over c.args.fresh old new (search rules) c.in_ok-version.field-0 c.in_ok-version.ensures.finds
    c.in-OtherVersion.version c.in-OtherVersion.is in
    search rules

pub returns-in-NotOurs-clause-takes : goal.returns-in-NotOurs-clause-takes
returns-in-NotOurs-clause-takes g c =
    let old = state g.S.Store c.args.conn.now in
    let new = state g.S.Store c.find.new.conn in
    not_ours_over c.args.fresh old new (search rules) c.in_ok-version.field-0 c.in_ok-version.ensures.finds _ c.in-NotOurs.is
    (λ fresh free.
    let told : IsTrue c.in_ok-is_to_found.field-0 =
    c.in_ok-is_to_found.ensures.told.exact (fresh, free) in
    search rules)

-- ---- Why it is a fault

pub returns-then-branch-clause-cause : goal.returns-then-branch-clause-cause
returns-then-branch-clause-cause g c =
    let old = state g.S.Store c.args.conn.now in
    let new = state g.S.Store c.found.new.conn in
    let told : IsTrue c.in_ok-is_to_found.field-0 = search rules in
    let wanted = c.in_ok-is_to_found.ensures.told.sure told in
    subst (λ fresh. IfErr c.found.result (IsFailed g.S.Reports.Reported
    (g.S.Loads.Unloaded ⊎ g.S.Grows.Ungrown) g.S.Store fresh old new)) (sym wanted.0) c.found.ensures.cause

pub returns-in_err-is_to_found-clause-cause : goal.returns-in_err-is_to_found-clause-cause
returns-in_err-is_to_found-clause-cause g c =
    passed_on _ c.from_residual.result (refusals.Fault c.in_err-is_to_found.field-0.0)
    c.from_residual.ensures.1 (inl (record { why = inl c.in_err-is_to_found.ensures.fault }))

pub returns-in_err-version-clause-cause : goal.returns-in_err-version-clause-cause
returns-in_err-version-clause-cause g c =
    passed_on _ c.from_residual-in_err-version.result (refusals.Fault c.in_err-version.field-0.0)
    c.from_residual-in_err-version.ensures.1 (inl c.in_err-version.ensures.fault)

pub returns-in-Ours-2-clause-cause : goal.returns-in-Ours-2-clause-cause
returns-in-Ours-2-clause-cause g c =
    failed_later g.S.Store g.S.Reports.Reported
    (g.S.Loads.Unloaded ⊎ g.S.Grows.Ungrown) c.args.fresh _ _ _ c.bring.result c.in_ok-version.ensures.finds.stays c.bring.ensures.brings.worked
    c.bring.ensures.brings.unchanged c.bring.ensures.cause
