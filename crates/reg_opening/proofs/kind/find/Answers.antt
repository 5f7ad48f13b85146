use Rattle.std.proofs.Common.{IsTrue, inl, refl, subst, sym, rules}
use Rattle.sqlite.specs.Held.{state}
use Rattle.sqlite.specs.Schema.{Schema}
use Rattle.reg_tables.specs.Having.{HasTable}
use Rattle.reg_tables.specs.Schema.{office_table}
use Rattle.reg_tables.proofs.Enduring.{endures_still}
use Rattle.reg_opening.specs.declared.flaw.Flaw.TheVariants as flaws
use Rattle.reg_opening.proofs.OpenLemmas.{none_finds}
use Rattle.reg_opening.proofs.kind.find.Goals as goal

pub find_version-requires-clause-there : goal.find_version-requires-clause-there
find_version-requires-clause-there g c =
    let told : IsTrue c.in-Ok-true.field-0 = search rules in
    subst (λ (schema : Schema). HasTable schema office_table) c.schema.ensures.value
    (c.in-Ok-true.ensures.has.sure told)

pub returns-in-Ok-false-clause-finds : goal.returns-in-Ok-false-clause-finds
returns-in-Ok-false-clause-finds g c =
    let old = state g.S.Store c.args.conn.now in
    let lacks : ¬ HasTable old.now.schema office_table = λ has.
    let told : IsTrue c.in-Ok-false.field-0 =
    c.in-Ok-false.ensures.has.exact
    (subst (λ (schema : Schema). HasTable schema office_table) (sym c.schema.ensures.value) has) in
    search rules in
    none_finds old old flaws.NoOffice c.requires (endures_still old)
    (record { worked = λ h. h; unchanged = λ h. refl }) (λ works. lacks) (λ works n is. lacks is.has)

pub returns-in-Err-clause-fault : goal.returns-in-Err-clause-fault
returns-in-Err-clause-fault g c =
    record { why = inl (c.in-Err.error, c.fault.ensures, c.in-Err.ensures.reported) }
