-- An event that stays changes no request that the account does not see.
use Rattle.std.proofs.Common.{◌≡◌, ℕ, Bool, true, false, not, List, refl, sym, ap, ◌∙◌, inl, inr}
use Rattle.std.specs.Prelude.{Option, Some, None, is_some}
use Rattle.std.specs.FinMap.{FinMap, get, insert, contains_key}
use Rattle.reg_core.proofs.Common.{and_parts, or_cases, both_ways, not-true, cases_Bool}
use Rattle.reg_core.proofs.Common.{bytes_eq-Decides, same_text, update, change_of, Event, about}
use Rattle.reg_core.proofs.Common.{is_outside, speaks_for, is_hidden, cap_at, World, RequestName}
use Rattle.reg_core.proofs.Common.{name_cmp, in_state, pending, applied, recorded_if}
use Rattle.reg_laws.proofs.Types.{Kind, Change, Case, Stamp}
use Rattle.reg_core.proofs.Common.{name_keys, same_kind-is}
use Rattle.reg_laws.proofs.Types.{Approved, Declined, Withdrawn}
use Rattle.reg_maps.proofs.HiddenKeys.{one_insert, one_update}
use Rattle.reg_core.specs.declared.capability.Kind.TheVariants as kind
use Rattle.reg_core.specs.declared.change.Change.TheVariants.{Submit, Close, Assign, Advise, GiveValue, GiveBlock}
use Rattle.reg_core.specs.declared.request.Given.TheVariants.{Value, Block}
use Rattle.reg_core.proofs.Outcomes.Accepted.{Serves, ClerkServes}
use Rattle.reg_core.proofs.Outcomes.Dues.{Due, IsApplicant, IsExpert, change_about, changes_due}
use Rattle.reg_laws.proofs.Striking.Answers.{Stays, answer_at}
use Rattle.reg_laws.proofs.Striking.Worlds.{IsOfHidden, Unaware}

-- ---- What the account does itself

module _
    (account : List ℕ) (hidden : RequestName → Bool) (w v : World)
    (un : Unaware account hidden w v)
    (e : Event) (speaks : speaks_for account (cap_at w e.caller) ≡ true) where
  -- the caller has the account, as an applicant or as an expert
  speaker : {kind : Kind} (by : Serves w e.caller e.moment kind)
      → (same_text by.cap.account account ≡ true) × (is_outside by.cap.kind ≡ true)
  speaker by = and_parts _ _ (ap (speaks_for account) (sym by.is_there) ∙ speaks)

  no_clerk : ClerkServes w e.caller e.moment → ⊥
  no_clerk by =
      let clerk = same_kind-is by.serves.cap.kind kind.Clerk by.serves.of_kind in
      both_ways (is_outside by.serves.cap.kind) (ap is_outside clerk) (speaker by.serves).1

  no_applicant : (name : RequestName) → hidden name ≡ true
      → IsApplicant w e.caller e.moment name.0 → ⊥
  no_applicant name h by =
      let mine = ap (λ of. same_text of account) (sym by.own) ∙ (speaker by.serves).0 in
      both_ways (same_text name.0 account) (un.not_own name h) mine

  no_expert : (name : RequestName) (expert : List ℕ) → hidden name ≡ true
      → IsExpert w e.caller e.moment expert → contains_key w.queue (name, expert) ≡ true → ⊥
  no_expert name expert h by assigned =
      let own = (bytes_eq-Decides by.serves.cap.account account).0 (speaker by.serves).0 in
      let seat = ap (λ of. contains_key w.queue (name, of)) (sym by.own ∙ own) in
      let free = seat ∙ ap is_some (un.blind_w.no_seat name h) in
      both_ways (contains_key w.queue (name, expert)) free assigned

  -- a line for each change: none is of a hidden request
  no_hidden : (change : Change) → Due w e.caller e.moment change
      → is_hidden hidden (change_about change) ≡ true → ⊥
  no_hidden (Submit applicant reference ask) due h = no_applicant (applicant, reference) h due.0
  no_hidden (Close applicant reference (Declined reason)) due h = no_clerk due.1
  no_hidden (Close of reference Withdrawn) due h = no_applicant (of, reference) h due.1
  no_hidden (Close applicant reference state) due h = due.1
  no_hidden (Assign applicant reference expert) due h = no_clerk due.0
  no_hidden (Advise applicant reference of advice) due h =
      no_expert (applicant, reference) of h due.0 due.2
  no_hidden (GiveValue applicant reference entry) due h = no_clerk due.0
  no_hidden (GiveBlock applicant reference holding) due h = no_clerk due.0
  no_hidden change due h = absurd (cc)

-- ---- What stays

-- what an event that stays changes, if anything, is of no hidden request
pub kept_apart : (digest_of : List ℕ → List ℕ) (account : List ℕ) (hidden : RequestName → Bool)
    (e : Event) (w v : World) → Unaware account hidden w v
    → Stays account hidden (cap_at w e.caller) e.command
    → IsOfHidden false hidden (change_of (answer_at digest_of w e))
kept_apart digest_of account hidden e w v un stays change made =
    let is = changes_due digest_of w e.caller e.moment e.command change made in
    elim (or_cases (not (is_hidden hidden (about (cap_at w e.caller) e.command))) _ stays) [
      | inl plain ↦ ap (is_hidden hidden) is.about ∙ not-true _ plain
      | inr speaks ↦ elim (cases_Bool (is_hidden hidden (change_about change))) [
        | inl h ↦ absurd (no_hidden account hidden w v un e speaks change is.due h)
        | inr h ↦ h
      ]
    ]

-- such a change leaves the requests that are hidden
module _ (hidden : RequestName → Bool) (v : World) where
  abbrev IsLeft : FinMap name_cmp Case → Type 0
  IsLeft m = (name : RequestName) → hidden name ≡ true → get m name ≡ get v.requests name

  -- where the others are hidden
  abbrev seen : RequestName → Bool
  seen name = not (hidden name)

  left_insert : (name : RequestName) (case : Case) → hidden name ≡ false
      → IsLeft (insert v.requests name case)
  left_insert name case h other k =
      one_insert name_keys seen _ v.requests (λ n h. refl) name case (ap not h) other (ap not k)

  left_update : (name : RequestName) (f : Case → Case) → hidden name ≡ false
      → IsLeft (update v.requests name f)
  left_update name f h other k =
      one_update name_keys seen _ v.requests (λ n h. refl) name f (ap not h) other (ap not k)

  left_after : (change : Change) → is_hidden hidden (change_about change) ≡ false
      → IsLeft (applied v change).requests
  left_after (Submit account reference ask) h = left_insert (account, reference) (pending ask) h
  left_after (Close account reference state) h =
      left_update (account, reference) (in_state state) h
  left_after (GiveValue account reference entry) h =
      left_update (account, reference) (in_state (Approved (Value entry.value))) h
  left_after (GiveBlock account reference holding) h =
      left_update (account, reference) (in_state (Approved (Block holding.block))) h
  left_after change h = λ name k. refl

  pub left_if : (stamp : Stamp) (made : Option Change) → IsOfHidden false hidden made
      → IsLeft (recorded_if stamp v made).requests
  left_if stamp None h = λ name k. refl
  left_if stamp (Some change) h = left_after change (h change refl)
