use Rattle.std.proofs.Common.{ℤ, subst, rules, FitsSigned, w64}
use Rattle.std.proofs.lemmas.Int.{to_z-of_z}
use Rattle.std.proofs.lemmas.Result.{IfErr-weaker}
use Rattle.sqlite.specs.Held.{state}
use Rattle.reg_tables.specs.Connection.{Works}
use Rattle.reg_opening.specs.Opening.{IsOfVersion}
use Rattle.reg_opening.specs.declared.flaw.Flaw.TheVariants as flaws
use Rattle.reg_opening.proofs.Causes.{cause_later}
use Rattle.reg_opening.proofs.OpenLemmas.{none_finds, other_finds, read_finds}
use Rattle.reg_opening.proofs.kind.find_version.Goals as goal

pub returns-in_default-clause-finds : goal.returns-in_default-clause-finds
returns-in_default-clause-finds g c =
    let old = state g.S.Store c.args.conn.now in
    let new = state g.S.Store c.version.new.conn in
    let read = c.in_ok-number.ensures in
    let none : Works new → (n : ℤ) → ¬ IsOfVersion n old.now =
    λ works n is. rw c.in_default.is at (read.version works is.has) n is.says in
    none_finds old new flaws.NoVersion read.idle read.endures read.stays
    (λ works. (c.requires.there, none works)) none

pub returns-in-Some-version_of-clause-finds : goal.returns-in-Some-version_of-clause-finds
returns-in-Some-version_of-clause-finds g c =
    let old = state g.S.Store c.args.conn.now in
    let mid = state g.S.Store c.version.new.conn in
    let new = state g.S.Store c.find_office.new.conn in
    let read = c.in_ok-number.ensures in
    let fits : FitsSigned w64 c.in-Some.number = search rules in
    let known = simp to_z-of_z at c.version_of.ensures in
    let is = rw c.in-Some-version_of.is at known in
    read_finds c.in-Some-version_of.version old mid new c.find_office.result c.requires.live read.endures
    read.stays
    (λ works. subst (λ n. IsOfVersion n old.now) is
    (record { has = c.requires.there; says = rw c.in-Some.is at (read.version works c.requires.there) }))
    c.find_office.ensures.reads

pub returns-in-None-clause-finds : goal.returns-in-None-clause-finds
returns-in-None-clause-finds g c =
    let old = state g.S.Store c.args.conn.now in
    let new = state g.S.Store c.version.new.conn in
    let read = c.in_ok-number.ensures in
    let fits : FitsSigned w64 c.in-Some.number = search rules in
    let known = simp to_z-of_z at c.version_of.ensures in
    let other = rw c.in-None.is at known in
    simp to_z-of_z
    (other_finds c.in-Some.number old new read.idle read.endures read.stays
    other
    (λ works. record { has = c.requires.there; says = rw c.in-Some.is at (read.version works c.requires.there) }))

pub returns-in-Some-version_of-clause-fault : goal.returns-in-Some-version_of-clause-fault
returns-in-Some-version_of-clause-fault g c =
    IfErr-weaker c.find_office.result _ _ (λ fault cause.
    cause_later _ _ _ fault c.in_ok-number.ensures.stays c.find_office.ensures.reads.stays cause)
    c.find_office.ensures.fault
