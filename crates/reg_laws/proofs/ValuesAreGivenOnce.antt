-- What is given may be given, and is given once.
use Rattle.std.proofs.Common.{◌≡◌, ℕ, true, List, refl, sym, ap, subst, ◌∙◌, Option, Some, None}
use Rattle.reg_core.proofs.Common.{get, bytes_eq-Decides, get-inserted, IsDay, registration_in}
use Rattle.reg_core.proofs.Common.{GivesDigests, IsRenewedIn, StillGiven, Event, world_after, step}
use Rattle.reg_core.proofs.Common.{WellKept, is_registered_to, is_registered_at, stands_in, World}
use Rattle.reg_core.proofs.Common.{carried, place_keys}
use Rattle.reg_laws.proofs.Types.{Ask, Entry, Registration}
use Rattle.reg_early.proofs.MomentsHaveDays.{IsDay-utc_day}
use Rattle.reg_core.specs.MayBeGiven.{IsDuly, AsksMeetTheirPolicy, IsSameEntry, NoValueIsGivenTwice, place_of}
use Rattle.reg_core.specs.declared.change.Change.TheVariants.{GiveValue}
use Rattle.reg_core.proofs.Allowances.{allowed_asked}
use Rattle.reg_laws.proofs.GivenStays.{runs_stay}
use Rattle.reg_core.proofs.Keeping.RunsKeepWell.{step_keeps_well, runs_keep}
use Rattle.reg_core.proofs.Outcomes.Dues.{changes_due}
use Rattle.reg_laws.proofs.TermsStand.{given_duly, still_given}

-- an entry of this account is there
registered : (account : List ℕ) (existing : Option Registration)
    → is_registered_to account existing ≡ true
    → (a : Registration) × (existing ≡ Some a) × (a.assignee ≡ account)
registered account None h = absurd (cc)
registered account (Some a) h = (a, refl, (bytes_eq-Decides a.assignee account).0 h)

pub asks_meet_their_policy : (digest_of : List ℕ → List ℕ) → AsksMeetTheirPolicy digest_of
asks_meet_their_policy digest_of = record {
  submitted = λ w caller moment command account reference ask kept made.
      let due = (changes_due digest_of w caller moment command _ made).due in
      allowed_asked w kept account ask due.2 due.3;
  approved = λ w caller moment command account reference entry kept made.
      given_duly w kept _ account reference entry
      (changes_due digest_of w caller moment command _ made).due.1;
  stands = λ w name case registry v kept is names approved.
      registered name.0 (get w.entries (registry, v))
      (subst (λ o. is_registered_at w.entries name.0 o v ≡ true) names
      (subst (λ state. stands_in w.entries w.blocks name.0 case.ask state ≡ true) approved
      (kept.given name case is)));
}

-- what is given duly where an entry stands, which was given before, is the same entry
given_again : (w : World) → WellKept w → (today : ℕ) → IsDay today → (account : List ℕ) (ask : Ask) (entry other : Entry)
    → place_of entry ≡ place_of other → IsDuly w today account ask other
    → (IsRenewed : ℕ → ℕ → Type 0) → StillGiven IsRenewed (registration_in entry) (get w.entries (place_of entry))
    → IsSameEntry entry other
given_again w kept today day account ask entry other same duly IsRenewed =
    by (get w.entries (place_of entry)) refl
  where
    by : (existing : Option Registration) → get w.entries (place_of entry) ≡ existing
        → StillGiven IsRenewed (registration_in entry) existing → IsSameEntry entry other
    by None is still = absurd still
    by (Some a) is still =
        let there = ap (get w.entries) (sym same) ∙ is in
        let again = still_given w today account other (λ was is. Unit {0}) (λ is_day was is by. tt) kept day ask duly a there in
        record {
          label = again.0 ∙ still.0;
          assignee = again.1 ∙ still.1;
          first = again.2.first ∙ still.2.first;
        }

pub no_value_is_given_twice : (digest_of : List ℕ → List ℕ) → GivesDigests digest_of
    → NoValueIsGivenTwice digest_of
no_value_is_given_twice digest_of digests w caller later_caller moment later_moment command later
    events account reference other_account other_reference entry other kept form forms made again =
    λ same.
    let first : Event = record { caller = caller; moment = moment; command = command } in
    let u = (step digest_of w caller moment command).world in
    let u_kept = step_keeps_well digest_of digests w kept first form in
    let v = world_after digest_of u events in
    let v_kept = runs_keep digest_of digests u events u_kept forms in
    let stays = runs_stay digest_of digests u events u_kept forms in
    let given : u ≡ carried w caller moment (Some (GiveValue account reference entry)) =
    ap (carried w caller moment) made in
    let there : get u.entries (place_of entry) ≡ Some (registration_in entry) =
    ap (λ (x : World). get x.entries (place_of entry)) given
    ∙ get-inserted place_keys w.entries (place_of entry) (registration_in entry) in
    let due = changes_due digest_of v later_caller later_moment later _ again in
    let duly = given_duly v v_kept _ other_account other_reference other due.due.1 in
    given_again v v_kept _ (IsDay-utc_day later_moment due.is_open) other_account duly.ask entry other same duly.duly (IsRenewedIn events)
    (stays.entries (place_of entry) (registration_in entry) there)
