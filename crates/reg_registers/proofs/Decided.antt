-- A command that comes to what a rule decides.
use Rattle.std.proofs.Common.{◌≡◌, Bool, false, Result, Ok, Err, refl, sym, ap, subst, ◌∙◌}
use Rattle.std.specs.Prelude.{IsErrAnd, IfOk, OnOk}
use Rattle.std.proofs.lemmas.Result.{IfOk-at_ok, err_from_is_err_and}
use Rattle.reg_core.specs.Answer.{Answer, Outcome, reply_of, change_of, change_by, by_rule}
use Rattle.reg_core.specs.Journal.{recorded_if}
use Rattle.reg_core.specs.Rules.{Follows}
use Rattle.reg_core.specs.WellKept.{WellKept, CanApply}
use Rattle.reg_core.specs.World.{World}
use Rattle.reg_core.specs.declared.change.Change.{Change}
use Rattle.reg_core.specs.declared.told.Told.{Told}
use Rattle.reg_core.specs.declared.decide.Decision.{Decision}
use Rattle.reg_core.specs.declared.decide.Decision.TheVariants.{Make, Same}
use Rattle.reg_core.specs.declared.decide.Deny.{Deny}
use Rattle.reg_core.specs.declared.decide.Deny.TheVariants as deny
use Rattle.reg_core.specs.declared.journal.Stamp.{Stamp}
use Rattle.reg_core.specs.declared.refusal.Refusal.{Refusal}
use Rattle.reg_core.specs.declared.reply.Reply.TheVariants.{Accepted}
use Rattle.reg_keeper.specs.Keeper.{GoesOn, Makes, Selects}
use Rattle.reg_keeper.proofs.Premises.{goes_on_anyway, goes_on_then}
use Rattle.reg_registers.specs.Decisions.{CanMake}
use Rattle.reg_registers.specs.Performs.{LooksUp, Performs}
use Rattle.reg_registers.specs.Stops.{MayStop, Refuses, stop_of}
use Rattle.reg_registers.specs.declared.stop.Stop.{Stop}
use Rattle.reg_registers.specs.declared.stop.Stop.TheVariants.{Refused, Fault}

-- what holds anyway holds where there is a value
pub always : {T E P : Type 0} (r : Result T E) → P → OnOk r P
always (Ok x) p = p
always (Err e) p = tt

-- the value that there is, where each is this one
pub the_value : {T E : Type 0} {r : Result T E} {x : T} (y : T)
    → r ≡ Ok x → IfOk r (λ z. z ≡ y) → y ≡ x
the_value y is all = sym (IfOk-at_ok (λ z. z ≡ y) is all)

-- ---- What follows a rule

-- a decision that was made is the rule's
pub decided : (rule : Result Decision Refusal) (decision : Decision)
    → Follows rule (Ok decision) → rule ≡ Ok decision
decided (Ok Same) decision h = let e : decision ≡ Same = cc in ap Ok (sym e)
decided (Ok (Make change)) decision h = ap Ok (sym h)
decided (Err refusal) decision h = absurd (cc)

-- and so is a refusal, where it is not for want of memory
pub denies : (rule : Result Decision Refusal) (deny : Deny)
    → Follows rule (Err deny) → Refuses rule (stop_of deny)
denies rule deny.Memory h = tt
denies (Ok Same) (deny.Refused refusal) h = absurd (cc)
denies (Ok (Make change)) (deny.Refused refusal) h = absurd (cc)
denies (Err other) (deny.Refused refusal) h = let e : other ≡ refusal = cc in ap Err e

-- by which the command is refused too
refuses : (rule : Result Decision Refusal) (told : Decision → Told) (stop : Stop)
    → Refuses rule stop → Refuses (by_rule rule told) stop
refuses rule told (Refused refusal) h = ap (λ rule. by_rule rule told) h
refuses rule told (Fault fault) h = tt

pub may_stop : (fails : Bool) (deny : Deny) → MayStop fails (stop_of deny)
may_stop fails deny.Memory = tt
may_stop fails (deny.Refused refusal) = tt

-- where a rule decides without memory, its decision follows it
pub follows : (rule : Result Decision Refusal) (decision : Decision)
    → rule ≡ Ok decision → Follows rule (Ok decision)
follows rule decision is = subst (λ r. Follows r (Ok decision)) (sym is) (itself decision)
  where
    itself : (decision : Decision) → Follows (Ok decision) (Ok decision)
    itself Same = refl
    itself (Make change) = refl

-- the change of a decision fits where each change that the rule decides to make does
pub can_make : (w : World) (rule : Result Decision Refusal) (decision : Decision)
    → Follows rule (Ok decision)
    → ((change : Change) → rule ≡ Ok (Make change) → CanApply w change) → CanMake w decision
can_make w rule Same follows fits = tt
can_make w rule (Make change) follows fits = fits change (decided rule (Make change) follows)

-- ---- A command

-- between these two states of the keeper all was looked up over which the rule decides, by which
-- the command is answered
pub record Decides {S : Type 0} (world : S → World) (Holds Sound : S → Type 0) (old mid : S)
    (answer : World → Answer) (rule : Result Decision Refusal) (told : Decision → Told)
    : Type 0 where
  pub answered : Holds mid → answer (world mid) ≡ by_rule rule told
  pub fits : Holds mid → WellKept (world mid)
      → (change : Change) → rule ≡ Ok (Make change) → CanApply (world mid) change
  pub same : Holds mid → world mid ≡ world old
  pub premise : GoesOn Holds Sound old mid (Unit {0})

-- the decision's change can be made, where the rule has it
pub makes_found : {S : Type 0} {world : S → World} {Holds Sound : S → Type 0} {old mid : S}
    {answer : World → Answer} {rule : Result Decision Refusal} {told : Decision → Told}
    (decision : Decision) → Decides world Holds Sound old mid answer rule told
    → (Holds mid → rule ≡ Ok decision) → Holds mid → WellKept (world mid)
    → CanMake (world mid) decision
makes_found {world = world} {mid = mid} {rule = rule} decision decides is h kept =
    can_make (world mid) rule decision (follows rule decision (is h)) (decides.fits h kept)

pub makes_fitting : {S : Type 0} {world : S → World} {Holds Sound : S → Type 0} {old mid : S}
    {answer : World → Answer} {rule : Result Decision Refusal} {told : Decision → Told}
    (decision : Decision) → Decides world Holds Sound old mid answer rule told
    → Follows rule (Ok decision) → Holds mid → WellKept (world mid) → CanMake (world mid) decision
makes_fitting {rule = rule} decision decides follows =
    makes_found decision decides (λ h. decided rule decision follows)

-- a command that the rule refuses is refused as it is answered
pub performs_refused : {S : Type 0} {world : S → World} {Holds Sound : S → Type 0} {fails : Bool}
    {stamp : Stamp} {old new : S} {result : Result Told Stop} {answer : World → Answer}
    (rule : Result Decision Refusal) (told : Decision → Told) (stop : Stop)
    → (Holds new → answer (world new) ≡ by_rule rule told) → (Holds new → world new ≡ world old)
    → GoesOn Holds Sound old new (MayStop false stop) → (Holds new → Refuses rule stop)
    → MayStop fails stop → IsErrAnd result (λ s. s ≡ stop)
    → Performs world Holds Sound fails stamp old new result answer
performs_refused {result = result} {answer = answer} rule told stop answered same goes denied may
    stops =
    let p = err_from_is_err_and result stops in
    rw (p.1, p.2) (record {
      told = λ h. tt;
      made = λ h. tt;
      refused = λ h.
          subst (λ a. Refuses a stop) (sym (answered h) ∙ ap answer (same h))
          (refuses rule told stop (denied h));
      kept = same;
      premise = goes;
      fault = may;
    })

pub performs_denied : {S : Type 0} {world : S → World} {Holds Sound : S → Type 0} {fails : Bool}
    {stamp : Stamp} {old new : S} {result : Result Told Stop} {answer : World → Answer}
    {rule : Result Decision Refusal} {told : Decision → Told} (deny : Deny)
    → Decides world Holds Sound old new answer rule told → Follows rule (Err deny)
    → IsErrAnd result (λ stop. stop ≡ stop_of deny)
    → Performs world Holds Sound fails stamp old new result answer
performs_denied {fails = fails} {rule = rule} {told = told} deny decides follows stops =
    performs_refused rule told (stop_of deny) decides.answered decides.same (goes_on_anyway decides.premise)
    (λ h. denies rule deny follows) (may_stop fails deny) stops

-- so is one that is decided without memory
pub performs_declined : {S : Type 0} {world : S → World} {Holds Sound : S → Type 0} {fails : Bool}
    {stamp : Stamp} {old new : S} {result : Result Told Stop} {answer : World → Answer}
    {rule : Result Decision Refusal} {told : Decision → Told} (refusal : Refusal)
    → Decides world Holds Sound old new answer rule told → rule ≡ Err refusal
    → IsErrAnd result (λ stop. stop ≡ Refused refusal)
    → Performs world Holds Sound fails stamp old new result answer
performs_declined {rule = rule} {told = told} refusal decides is stops =
    performs_refused rule told (Refused refusal) decides.answered decides.same
    (goes_on_anyway decides.premise) (λ h. is) tt stops

-- and one whose decision was carried out did what it is answered
pub performs_found : {S T : Type 0} {world : S → World} {Holds Sound : S → Type 0} {fails : Bool}
    {stamp : Stamp} {old mid new : S} {shown : Told} {answer : World → Answer} {x : T}
    {rule : Result Decision Refusal} {told : Decision → Told} (decision : Decision)
    → Decides world Holds Sound old mid answer rule told → (Holds mid → rule ≡ Ok decision)
    → told decision ≡ shown
    → Makes world Holds Sound fails mid new (Ok x) (λ w. recorded_if stamp w (change_by decision))
    → Performs world Holds Sound fails stamp old new (Ok shown) answer
performs_found {world = world} {Holds = Holds} {stamp = stamp} {old = old} {mid = mid} {answer = answer}
    {rule = rule} {told = told} decision decides is tells makes = record {
      told = λ h. ap reply_of (answer_is (makes.premise.before h)) ∙ ap Accepted tells;
      made = λ h.
          makes.made h
          ∙ ap (λ w. recorded_if stamp w (change_by decision)) (decides.same (makes.premise.before h))
          ∙ ap (λ a. recorded_if stamp (world old) (change_of a))
          (sym (answer_is (makes.premise.before h)));
      refused = λ h. tt;
      kept = λ h. tt;
      premise = goes_on_then decides.premise makes.premise;
      fault = tt;
    }
  where
    outcome : Outcome
    outcome = record { told = told decision; change = change_by decision }

    answer_is : Holds mid → answer (world old) ≡ Ok outcome
    answer_is h =
        sym (ap answer (decides.same h)) ∙ decides.answered h ∙ ap (λ r. by_rule r told) (is h)

pub performs_decided : {S T : Type 0} {world : S → World} {Holds Sound : S → Type 0} {fails : Bool}
    {stamp : Stamp} {old mid new : S} {shown : Told} {answer : World → Answer} {x : T}
    {rule : Result Decision Refusal} {told : Decision → Told} (decision : Decision)
    → Decides world Holds Sound old mid answer rule told → Follows rule (Ok decision)
    → told decision ≡ shown
    → Makes world Holds Sound fails mid new (Ok x) (λ w. recorded_if stamp w (change_by decision))
    → Performs world Holds Sound fails stamp old new (Ok shown) answer
performs_decided {rule = rule} decision decides follows =
    performs_found decision decides (λ h. decided rule decision follows)

-- ---- A decision that is found

-- what is decided over rows that were selected is found, where a rule over the content decides
-- the same
pub finds_decided : {S T : Type 0} {world : S → World} {Holds Sound : S → Type 0} {fails : Bool}
    {old new : S} {rows : T} {Gives : World → T → Type 0} {rule : Result Decision Refusal}
    {found : World → Result Decision Refusal} (decision : Decision)
    → Selects world Holds Sound fails old new (Ok rows) Gives
    → (Holds new → rule ≡ found (world new)) → Follows rule (Ok decision)
    → LooksUp world Holds Sound fails old new (Ok decision) found
finds_decided {rule = rule} {found = found} decision selects same follows = record {
  value = λ h. ap found (sym (selects.same h)) ∙ sym (same h) ∙ decided rule decision follows;
  refused = λ h. tt;
  same = selects.same;
  premise = selects.premise;
  fault = tt;
}

pub finds_denied : {S T : Type 0} {world : S → World} {Holds Sound : S → Type 0} {fails : Bool}
    {old new : S} {rows : T} {Gives : World → T → Type 0} {rule : Result Decision Refusal}
    {found : World → Result Decision Refusal} {result : Result Decision Stop} (deny : Deny)
    → Selects world Holds Sound fails old new (Ok rows) Gives
    → (Holds new → rule ≡ found (world new)) → Follows rule (Err deny)
    → IsErrAnd result (λ stop. stop ≡ stop_of deny)
    → LooksUp world Holds Sound fails old new result found
finds_denied {fails = fails} {rule = rule} {found = found} {result = result}
    deny selects same follows stops =
    let p = err_from_is_err_and result stops in
    rw (p.1, p.2) (record {
      value = λ h. tt;
      refused = λ h.
          subst (λ r. Refuses r (stop_of deny)) (same h ∙ ap found (selects.same h))
          (denies rule deny follows);
      same = selects.same;
      premise = goes_on_anyway selects.premise;
      fault = may_stop fails deny;
    })

-- ---- A command whose decision is found by a function of its own

-- over the content of this state, the rule decides the command
pub record Rules {S : Type 0} (world : S → World) (Holds : S → Type 0) (mid : S)
    (answer : World → Answer) (rule : Result Decision Refusal) (told : Decision → Told)
    : Type 0 where
  pub answered : Holds mid → answer (world mid) ≡ by_rule rule told
  pub fits : Holds mid → WellKept (world mid)
      → (change : Change) → rule ≡ Ok (Make change) → CanApply (world mid) change

module _ {S T : Type 0} {world : S → World} {Holds Sound : S → Type 0} {fails : Bool}
    {old mid new : S} {x : T} {Gives : World → T → Type 0}
    {answer : World → Answer} {told : Decision → Told}
    {found : World → Result Decision Refusal} where
  -- what was selected and then found is what the command is decided over
  pub decides_found : (decision : Decision) → Rules world Holds mid answer (found (world mid)) told
      → Selects world Holds Sound fails old mid (Ok x) Gives
      → LooksUp world Holds Sound fails mid new (Ok decision) found
      → Decides world Holds Sound old new answer (found (world mid)) told
  decides_found decision rules selects finds = record {
    answered = λ h. ap answer (finds.same h) ∙ rules.answered (finds.premise.before h);
    fits = λ h kept change made.
        subst (λ (w : World). CanApply w change) (sym (finds.same h))
        (rules.fits (finds.premise.before h) (subst WellKept (finds.same h) kept) change made);
    same = λ h. finds.same h ∙ selects.same (finds.premise.before h);
    premise = goes_on_then selects.premise finds.premise;
  }

  -- and a command that was stopped there is refused as it is answered, or met a fault
  pub performs_stopped_at : {stamp : Stamp} {result : Result Told Stop} (stop : Stop)
      → Rules world Holds mid answer (found (world mid)) told
      → Selects world Holds Sound fails old mid (Ok x) Gives
      → LooksUp world Holds Sound fails mid new (Err stop) found
      → IsErrAnd result (λ s. s ≡ stop)
      → Performs world Holds Sound fails stamp old new result answer
  performs_stopped_at stop rules selects finds stops =
      performs_refused (found (world mid)) told stop
      (λ h. ap answer (finds.same h) ∙ rules.answered (finds.premise.before h))
      (λ h. finds.same h ∙ selects.same (finds.premise.before h))
      (goes_on_then selects.premise finds.premise) finds.refused finds.fault stops
