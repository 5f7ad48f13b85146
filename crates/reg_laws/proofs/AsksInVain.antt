-- Some asks are in vain: for a value that has an entry, whatever its term, and for the renewal or
-- the permanence of an entry that is not the account's own, whoever has it.
use Rattle.std.proofs.Common.{◌≡◌, ℕ, Bool, true, false, List, refl, sym, ap, subst, ◌∙◌}
use Rattle.std.specs.Prelude.{Option, Some, None, Result, Ok, Err, is_some, option_map, if◌then◌else◌}
use Rattle.reg_core.proofs.Common.{FinMap, get, bytes_eq-Decides, same_text, early_unmet, is_in_clock}
use Rattle.reg_core.proofs.Common.{first_item, unmet, Table, Answer, admitted, as_kind, by_rule}
use Rattle.reg_core.proofs.Common.{change_of, made_row, reply_of, same_ask, submit_rule, answer_to}
use Rattle.reg_core.proofs.Common.{published, Personal, personal, cap_at, with_personal, World, Place}
use Rattle.reg_core.proofs.Common.{RequestName, place_cmp, carried}
use Rattle.reg_laws.proofs.Types.{Ask, Want, Cap, Told, Decision}
use Rattle.reg_core.proofs.Common.{by_test}
use Rattle.reg_laws.proofs.Types.{Registration, Refusal, Case, Given, Same}
use Rattle.reg_core.specs.Allowance.{◌>>=◌, or_refusal, policy_for, is_met, is_met_early, value_for, value_ground, own_entry, code_allowance, early_allowance, allowed}
use Rattle.reg_core.specs.EarlyAllocations.{WantsNew, ExpiredValuesAreTaken, IsOfEntry, HasNoEntry, ForeignEntriesAreHidden}
use Rattle.reg_core.specs.declared.ask.Ask.TheVariants.{Code, Early, Renew, Permanent, Block}
use Rattle.reg_core.specs.declared.ask.Want.TheVariants.{Value}
use Rattle.reg_core.specs.declared.capability.Kind.TheVariants as kind
use Rattle.reg_core.specs.declared.command.Command.TheVariants.{Applicant}
use Rattle.reg_core.specs.declared.command.ApplicantCommand.TheVariants as applicant
use Rattle.reg_core.specs.declared.refusal.Refusal.TheVariants as no
use Rattle.reg_core.proofs.Outcomes.Dues.{changes_due}

-- ---- Refusals in turn

-- the result is a refusal
record Refuses {A : Type 0} (r : Result A Refusal) : Type 0 where
  refusal : Refusal
  is : r ≡ Err refusal

-- a check after others refuses, unless one of them does
refuses_after : {A B : Type 0} (x : Result A Refusal) (f : A → Result B Refusal)
    → ((a : A) → Refuses (f a)) → Refuses (x >>= f)
refuses_after (Ok a) f each = each a
refuses_after (Err refusal) f each = record { refusal = refusal; is = refl }

-- and nothing comes after it
refuses_first : {A B : Type 0} (x : Result A Refusal) (f : A → Result B Refusal) → Refuses x
    → Refuses (x >>= f)
refuses_first x f h = record { refusal = h.refusal; is = ap (λ r. r >>= f) h.is }

-- ---- Expired values

module _ (w : World) (place : Place) (a : Registration)
    (stands : get w.entries place ≡ Some a) where
  -- a value that has an entry is not given again
  taken : (registry : List ℕ) (want : Want) → (registry ≡ place.0) × (want ≡ Value place.1)
      → (table : Table) → Refuses (value_for (value_ground (published w) registry want) table want)
  taken registry want is table =
      subst (λ x. Refuses (value_for (value_ground (published w) registry x) table x)) (sym is.1)
      (record {
        refusal = no.Taken;
        is = ap (λ o. if is_some o then Err no.Taken else Ok place.1)
            ((λ i. get w.entries (is.0 i, place.1)) ∙ stands);
      })

  in_vain : (account : List ℕ) (ask : Ask) → WantsNew ask place
      → Refuses (allowed (published w) account ask)
  in_vain account (Code ask) wants =
      let rows = value_ground (published w) ask.registry ask.want in
      refuses_first (code_allowance rows account ask) _
      (refuses_after (or_refusal no.Registry rows.table) _ (λ table.
      refuses_after (policy_for table ask.want) _ (λ policy.
      refuses_after (is_met (first_item (unmet policy ask.evidence))) _ (λ met.
      refuses_first (value_for rows table ask.want) _
      (taken ask.registry ask.want wants table)))))
  in_vain account (Early ask) wants =
      let rows = value_ground (published w) ask.registry ask.want in
      refuses_first (early_allowance rows account ask) _
      (refuses_after (or_refusal no.Registry rows.table) _ (λ table.
      refuses_after (policy_for table ask.want) _ (λ policy.
      refuses_after (is_met_early (first_item (early_unmet policy ask.evidence))) _ (λ met.
      refuses_first (value_for rows table ask.want) _
      (taken ask.registry ask.want wants table)))))
  in_vain account ask wants = absurd wants

pub expired_are_taken : (digest_of : List ℕ → List ℕ) → ExpiredValuesAreTaken digest_of
expired_are_taken digest_of w caller moment command account reference ask place a stands wants =
    λ made.
    let due = (changes_due digest_of w caller moment command _ made).due in
    let refused = (in_vain w place a stands account ask wants).is in
    let allows = due.3 in
    absurd (cc)

-- ---- Entries of others

-- an entry of another's is as none
no_own : (account : List ℕ) (existing : Option Registration)
    → ((a : Registration) → existing ≡ Some a → ¬ (a.assignee ≡ account))
    → own_entry account existing ≡ Err no.Entry
no_own account None foreign = refl
no_own account (Some a) foreign = by (same_text a.assignee account) refl
  where
    by : (b : Bool) → same_text a.assignee account ≡ b
        → (if b then Ok a else Err no.Entry) ≡ Err no.Entry
    by true t = absurd (foreign a refl ((bytes_eq-Decides a.assignee account).0 t))
    by false t = refl

-- what an ask for an entry is allowed, where the account has none
abbrev without_entry : World → Ask → Result Given Refusal
without_entry w (Renew ask) = do
  table ← or_refusal no.Registry (get w.registries ask.registry)
  policy ← policy_for table (Value ask.value)
  nothing ← is_met_early (first_item (early_unmet policy ask.evidence))
  Err no.Entry
without_entry w (Permanent ask) = do
  table ← or_refusal no.Registry (get w.registries ask.registry)
  policy ← policy_for table (Value ask.value)
  nothing ← is_met (first_item (unmet policy ask.evidence))
  Err no.Entry
without_entry w (Code ask) = Err no.Entry
without_entry w (Early ask) = Err no.Entry
without_entry w (Block ask) = Err no.Entry

no_entry : {A : Type 0} → Refuses {A = A} (Err no.Entry)
no_entry = record { refusal = no.Entry; is = refl }

-- it is nothing
refused_anyway : (w : World) (ask : Ask) → Refuses (without_entry w ask)
refused_anyway w (Renew ask) =
    refuses_after (or_refusal no.Registry (get w.registries ask.registry)) _ (λ table.
    refuses_after (policy_for table (Value ask.value)) _ (λ policy.
    refuses_after (is_met_early (first_item (early_unmet policy ask.evidence))) _
    (λ met. no_entry)))
refused_anyway w (Permanent ask) =
    refuses_after (or_refusal no.Registry (get w.registries ask.registry)) _ (λ table.
    refuses_after (policy_for table (Value ask.value)) _ (λ policy.
    refuses_after (is_met (first_item (unmet policy ask.evidence))) _ (λ met. no_entry)))
refused_anyway w ask = no_entry

-- where each outcome of a check goes on alike, so does the check
same_after : {A B C : Type 0} (x : Result A Refusal) (f : A → Result B Refusal)
    (g : B → Result C Refusal) (h : A → Result C Refusal)
    → ((a : A) → (f a >>= g) ≡ h a) → ((x >>= f) >>= g) ≡ (x >>= h)
same_after (Ok a) f g h each = each a
same_after (Err refusal) f g h each = refl

-- nothing comes after a missing entry
nothing_after : {A B C : Type 0} (x : Result A Refusal) (f : A → Result B Refusal)
    (g : B → Result C Refusal) → x ≡ Err no.Entry → ((x >>= f) >>= g) ≡ Err no.Entry
nothing_after x f g is = ap (λ r. (r >>= f) >>= g) is

module _ (w : World) (account : List ℕ) (place : Place)
    (foreign : (a : Registration) → get w.entries place ≡ Some a → ¬ (a.assignee ≡ account)) where
  none_own : (own : Place) → own ≡ place
      → own_entry account (get w.entries own) ≡ Err no.Entry
  none_own own same =
      ap (λ p. own_entry account (get w.entries p)) same
      ∙ no_own account (get w.entries place) foreign

  -- an ask for an entry that is not the account's own is allowed nothing
  allowed_none : (ask : Ask) → IsOfEntry ask place
      → allowed (published w) account ask ≡ without_entry w ask
  allowed_none (Renew ask) of =
      same_after (or_refusal no.Registry (get w.registries ask.registry)) _ _ _ (λ table.
      same_after (policy_for table (Value ask.value)) _ _ _ (λ policy.
      same_after (is_met_early (first_item (early_unmet policy ask.evidence))) _ _ _ (λ met.
      nothing_after (own_entry account (get w.entries (ask.registry, ask.value))) _ _
      (none_own (ask.registry, ask.value) of))))
  allowed_none (Permanent ask) of =
      same_after (or_refusal no.Registry (get w.registries ask.registry)) _ _ _ (λ table.
      same_after (policy_for table (Value ask.value)) _ _ _ (λ policy.
      same_after (is_met (first_item (unmet policy ask.evidence))) _ _ _ (λ met.
      nothing_after (own_entry account (get w.entries (ask.registry, ask.value))) _ _
      (none_own (ask.registry, ask.value) of))))
  allowed_none ask of = absurd of

-- what an account is answered that submits an ask which is allowed this
abbrev submitted : List ℕ → Ask → Result Given Refusal → List ℕ → Personal → Answer
submitted reference ask allowance account my =
    by_rule (submit_rule allowance (account, reference) ask (get my.requests (account, reference)))
    (λ decision. made_row (account, reference) ask (get my.requests (account, reference)))

-- what changes nothing for each account changes nothing for any caller, at any moment
pub never_changes : (me : Option (Cap × Personal)) (moment : ℕ) (f : List ℕ → Personal → Answer)
    → ((account : List ℕ) (my : Personal) → change_of (f account my) ≡ None)
    → change_of (if is_in_clock moment then as_kind kind.Applicant me moment f else Err no.Clock)
    ≡ None
never_changes me moment f nothing =
    by_test (λ a. change_of a ≡ None) (is_in_clock moment) (as_kind kind.Applicant me moment f)
    (Err no.Clock) (λ now. asked me) (λ shut. refl)
  where
    after : (r : Result Cap Refusal) (account : List ℕ) (my : Personal)
        → change_of (r >>= (λ (c : Cap). f account my)) ≡ None
    after (Ok c) account my = nothing account my
    after (Err refusal) account my = refl

    asked : (me : Option (Cap × Personal)) → change_of (as_kind kind.Applicant me moment f) ≡ None
    asked None = refl
    asked (Some (cap, my)) = after (admitted (Some cap) moment kind.Applicant) cap.account my

-- an ask that is refused changes nothing, nor does one that was submitted before
refused_changes : (allowance : Result Given Refusal) → Refuses allowance → (name : RequestName)
    (ask : Ask) (told : Decision → Told) (existing : Option Case)
    → change_of (by_rule (submit_rule allowance name ask existing) told) ≡ None
refused_changes allowance vain name ask told (Some old) =
    by_test (λ r. change_of (by_rule r told) ≡ None) (same_ask old.ask ask) (Ok Same)
    (Err no.Ref) (λ same. refl) (λ other. refl)
refused_changes allowance vain name ask told None =
    subst (λ r. change_of (by_rule (submit_rule r name ask None) told) ≡ None) (sym vain.is) refl

module _ (digest_of : List ℕ → List ℕ) (w : World) (caller : Option (List ℕ)) (moment : ℕ)
    (reference : List ℕ) (ask : Ask) (place : Place) (of : IsOfEntry ask place) where
  abbrev answered : World → Answer
  answered v = answer_to digest_of v caller moment (Applicant (applicant.Submit reference ask))

  abbrev me : Option (Cap × Personal)
  me = option_map (with_personal w) (cap_at w caller)

  abbrev refused : Answer
  refused =
      if is_in_clock moment
      then as_kind kind.Applicant me moment (submitted reference ask (without_entry w ask))
      else Err no.Clock

  -- whatever the entries, the answer is this one
  answered_so : (entries : FinMap place_cmp Registration)
      → HasNoEntry (record w { entries = entries }) (cap_at w caller) place
      → answered (record w { entries = entries }) ≡ refused
  answered_so entries foreign =
      ap (λ a. if is_in_clock moment then a else Err no.Clock) (by (cap_at w caller) refl)
    where
      by : (o : Option Cap) → cap_at w caller ≡ o
          → as_kind kind.Applicant (option_map (with_personal w) o) moment (λ account my.
          submitted reference ask (allowed (published (record w { entries = entries })) account ask)
          account my)
          ≡ as_kind kind.Applicant (option_map (with_personal w) o) moment
          (submitted reference ask (without_entry w ask))
      by None is = refl
      by (Some cap) is =
          ap (λ r.
          admitted (Some cap) moment kind.Applicant >>= (λ (c : Cap).
          submitted reference ask r cap.account (personal cap.account w)))
          (allowed_none (record w { entries = entries }) cap.account place
          (λ a at. foreign cap a is at) ask of)

  -- which changes nothing
  no_change : change_of refused ≡ None
  no_change =
      never_changes me moment (submitted reference ask (without_entry w ask)) (λ account my.
      refused_changes (without_entry w ask) (refused_anyway w ask) (account, reference) ask _
      (get my.requests (account, reference)))

pub foreign_are_hidden : (digest_of : List ℕ → List ℕ) → ForeignEntriesAreHidden digest_of
foreign_are_hidden digest_of w v caller moment reference ask place of differ not_w not_v =
    let one = answered_so digest_of w caller moment reference ask place of w.entries not_w in
    let two = ap (answered digest_of w caller moment reference ask place of) differ
    ∙ answered_so digest_of w caller moment reference ask place of v.entries
    (subst (λ x. HasNoEntry x (cap_at x caller) place) differ not_v) in
    let none = no_change digest_of w caller moment reference ask place of in (
      ap reply_of (one ∙ sym two),
      ap (carried w caller moment) (ap change_of one ∙ none),
      ap (carried v caller moment) (ap change_of two ∙ none),
    )
