use Rattle.std.proofs.Common.{◌≡◌, ◌⊎◌, inl, Ok, Err, Result, IfErr, IfOk, false, subst, sym, rules, FitsSigned, w64}
use Rattle.std.proofs.lemmas.Int.{to_z-of_z}
use Rattle.std.proofs.lemmas.Result.{IfErr-weaker, IfOk-weaker}
use Rattle.sqlite.specs.Held.{state}
use Rattle.sqlite.specs.State.{State}
use Rattle.reg_opening.specs.declared.beside.Beside.{Beside}
use Rattle.reg_keeper.specs.declared.keeper.Fault.{Fault as Given}
use Rattle.reg_keeper.specs.declared.keeper.Fault.TheVariants as faults
use Rattle.reg_tables.specs.Connection.{Holds, Works}
use Rattle.reg_tables.specs.Version.{number_of, schema_of}
use Rattle.reg_tables.specs.declared.version.Version.{Version}
use Rattle.reg_statements.specs.Content.{world_in}
use Rattle.reg_opening.specs.Opening.{FindsKind, HasFlaw, IsFoundAs, IsOfVersion, IsOurs, kind_of}
use Rattle.reg_opening.specs.declared.kind.Found.{Found}
use Rattle.reg_opening.specs.declared.kind.Found.TheVariants as finding
use Rattle.reg_sql.specs.Failing.{IsCaused}
use Rattle.reg_sql.specs.Opening.{IsOpened, IsRefused}
use Rattle.reg_sql.specs.Troubles.{OpeningIsGivenUp, IsTrouble, fault_trouble, refused_trouble}
use Rattle.reg_sql.specs.declared.open.OpenFault.{OpenFault}
use Rattle.reg_sql.specs.declared.open.OpenFault.TheVariants as refusals
use Rattle.reg_sql.specs.declared.trouble.Trouble.{Trouble}
use Rattle.reg_sql.proofs.Failed.{caused_by_fault, caused_later}
use Rattle.reg_sql.proofs.look.look_into.Goals as goal

-- a fault tells nothing of the store
fault_is : (s : State) (fault : Given) → IsTrouble s (fault_trouble fault)
fault_is s faults.Memory = tt
fault_is s faults.Store = tt

-- ---- What was found, of a store that is as it was

module _ (old mid : State) {E : Type 0} (found : Found) (finds : FindsKind {E = E} old mid (Ok found)) where
  told : (g : Found) → found ≡ g → Works mid → IsFoundAs old.now (kind_of g)
  told g is w = subst (λ f. IsFoundAs old.now (kind_of f)) is (finds.kind w)

  flawed : (g : Found) → found ≡ g → Works mid → HasFlaw old.now g
  flawed g is w = subst (HasFlaw old.now) is (finds.flaw w)

  -- of an office's: what was taken over was there before
  module _ (v : Version) (free : Beside) (is : found ≡ finding.Ours v free) where
    opened_over : (last : State) → (Holds last → Works mid × IsOpened false mid.now (world_in last))
        → Holds last → Works old × IsOpened false old.now (world_in last)
    opened_over last opened h =
        let now = opened h in (
          finds.stays.worked now.0,
          subst (λ db. IsOpened false db (world_in last)) (finds.stays.unchanged now.0) now.1,
        )

    version_over : {L F : Type 0} (result : Result L F) (tables : L → State) (version : L → Version)
        → IfOk result (λ look. version look ≡ v)
        → IfOk result (λ look. Works (tables look) → Works mid)
        → IfOk result (λ look. Works (tables look) → IsOfVersion (number_of (version look)) old.now)
    version_over (Ok look) tables version same worked = λ w.
        subst (λ u. IsOfVersion (number_of u) old.now) (sym same)
        (told (finding.Ours v free) is (worked w)).3
    version_over (Err e) tables version same worked = tt

    ours_over : {L F : Type 0} (result : Result L F) (tables : L → State) (version : L → Version)
        → IfOk result (λ look. version look ≡ v)
        → IfOk result (λ look. Works (tables look) → Works mid)
        → IfOk result (λ look. Holds (tables look)
        → old.now.schema ≡ schema_of (version look) → IsOurs (version look) old.now)
    ours_over (Ok look) tables version same worked = λ h.
        subst (λ u. old.now.schema ≡ schema_of u → IsOurs u old.now) (sym same)
        (told (finding.Ours v free) is (worked h.works)).1
    ours_over (Err e) tables version same worked = tt

    -- it is refused for a version that is not known, or where it does not come first, or by a fault
    refused_as : (last : State) (refusal : OpenFault) → Works mid → IsRefused false old.now refusal
        → IsTrouble old (refused_trouble refusal)
    refused_as last (refusals.Version n) w refused = refused
    refused_as last refusals.Busy w refused = absurd refused
    refused_as last refusals.NotOurs w refused =
        let is_it = told (finding.Ours v free) is w in
        (v, is_it.3, (is_it.0, λ begins. absurd (refused.3 v (is_it.0, is_it.2 begins))))
    refused_as last (refusals.Fault fault) w refused = fault_is old fault

    refused_over : (last : State) (trouble : Trouble) → OpeningIsGivenUp mid last trouble → Works last
        → IsTrouble old trouble
    refused_over last trouble given w =
        let worked = given.refused.unchanged.worked w in
        subst (IsTrouble old) (sym given.told)
        (refused_as last given.refusal worked
        (subst (λ db. IsRefused false db given.refusal) (finds.stays.unchanged worked)
        (given.refused.refused finds.rest.autocommit w)))

pub returns-in-Err-clause-trouble : goal.returns-in-Err-clause-trouble
returns-in-Err-clause-trouble g c works =
    let old = state g.S.Store c.args.conn in
    subst (IsTrouble old) (sym c.from.ensures) (fault_is old c.in-Err.fault)

pub returns-in-Ours-clause-opened : goal.returns-in-Ours-clause-opened
returns-in-Ours-clause-opened g c =
    IfOk-weaker c.adopted.result _ _ (λ look opened.
    opened_over (state g.S.Store c.args.conn) (state g.S.Store c.find.new.conn) c.in-Ok.found
    c.in-Ok.ensures.finds c.in-Ours.version c.in-Ours.free c.in-Ours.is
    (state g.S.Store look.keeper.tables) opened) c.adopted.ensures.opened

pub returns-in-Ours-clause-version : goal.returns-in-Ours-clause-version
returns-in-Ours-clause-version g c =
    version_over (state g.S.Store c.args.conn) (state g.S.Store c.find.new.conn) c.in-Ok.found
    c.in-Ok.ensures.finds c.in-Ours.version c.in-Ours.free c.in-Ours.is c.adopted.result
    (λ look. state g.S.Store look.keeper.tables) (λ look. look.version) c.adopted.ensures.same
    c.adopted.ensures.worked

pub returns-in-Ours-clause-ours : goal.returns-in-Ours-clause-ours
returns-in-Ours-clause-ours g c =
    ours_over (state g.S.Store c.args.conn) (state g.S.Store c.find.new.conn) c.in-Ok.found
    c.in-Ok.ensures.finds c.in-Ours.version c.in-Ours.free c.in-Ours.is c.adopted.result
    (λ look. state g.S.Store look.keeper.tables) (λ look. look.version) c.adopted.ensures.same
    c.adopted.ensures.worked

pub returns-in-Ours-clause-trouble : goal.returns-in-Ours-clause-trouble
returns-in-Ours-clause-trouble g c =
    IfErr-weaker c.adopted.result _ _ (λ refusal given.
    refused_over (state g.S.Store c.args.conn) (state g.S.Store c.find.new.conn) c.in-Ok.found
    c.in-Ok.ensures.finds c.in-Ours.version c.in-Ours.free c.in-Ours.is (state g.S.Store refusal.1)
    refusal.0 given) c.adopted.ensures.refused

pub returns-in-OtherVersion-clause-trouble : goal.returns-in-OtherVersion-clause-trouble
returns-in-OtherVersion-clause-trouble g c works =
    let fits : FitsSigned w64 c.in-OtherVersion.version = search rules in
    simp to_z-of_z
    (told (state g.S.Store c.args.conn) (state g.S.Store c.find.new.conn) c.in-Ok.found c.in-Ok.ensures.finds
    (finding.OtherVersion c.in-OtherVersion.version) c.in-OtherVersion.is works)

pub returns-in-NotOurs-clause-trouble : goal.returns-in-NotOurs-clause-trouble
returns-in-NotOurs-clause-trouble g c works =
    flawed (state g.S.Store c.args.conn) (state g.S.Store c.find.new.conn) c.in-Ok.found
    c.in-Ok.ensures.finds (finding.NotOurs c.in-NotOurs.flaw) c.in-NotOurs.is works

-- ---- Why it is a fault

pub returns-in-Err-clause-cause : goal.returns-in-Err-clause-cause
returns-in-Err-clause-cause g c =
    let refused = g.S.Loads.Unloaded ⊎ g.S.Grows.Ungrown in
    let old = state g.S.Store c.args.conn in
    let new = state g.S.Store c.find.new.conn in
    subst (IsCaused g.S.Reports.Reported refused g.S.Store old new) (sym c.from.ensures)
    (caused_by_fault g.S.Store g.S.Reports.Reported refused old new c.in-Err.fault
    (inl c.in-Err.ensures.fault))

-- an office was found, and then not taken over
both_err : {A E : Type 0} (P Q R : E → Type 0) (r : Result A E) → ((e : E) → P e → Q e → R e)
    → IfErr r P → IfErr r Q → IfErr r R
both_err P Q R (Ok a) f p q = tt
both_err P Q R (Err e) f p q = f e p q

pub returns-in-Ours-clause-cause : goal.returns-in-Ours-clause-cause
returns-in-Ours-clause-cause g c =
    both_err _ _ _ c.adopted.result (λ refusal given caused.
    caused_later g.S.Store g.S.Reports.Reported (g.S.Loads.Unloaded ⊎ g.S.Grows.Ungrown)
    (state g.S.Store c.args.conn) (state g.S.Store c.find.new.conn) (state g.S.Store refusal.1)
    refusal.0 c.in-Ok.ensures.finds.stays given.refused.unchanged.worked
    given.refused.unchanged.now caused) c.adopted.ensures.refused c.adopted.ensures.cause
