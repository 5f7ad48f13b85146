-- What is given is given duly; and where an entry stands, it is this entry, in a term that it may
-- have come to.
use Rattle.std.proofs.Common.{◌≡◌, ℕ, ◌≤◌, max, Bool, true, false, List, ◌⊎◌, refl, sym, ap, subst, ◌∙◌, inl, inr, arith}
use Rattle.std.specs.Prelude.{Option, Some, None, Ok, Err, IsSome, is_some, option_map, if◌then◌else◌}
use Rattle.std.specs.FinMap.{get}
use Rattle.reg_core.proofs.Common.{IsDay, year_after, has_term_form, held_term, renewed_term, is_spent}
use Rattle.reg_core.proofs.Common.{renewal, settled_term, settlement, Term, MovesTerm, registration_in}
use Rattle.reg_core.proofs.Common.{WellKept, World, Place, pending}
use Rattle.reg_laws.proofs.Types.{Ask, Entry, Registration}
use Rattle.reg_early.specs.declared.term.RenewFault.TheVariants as renew_fault
use Rattle.reg_early.specs.declared.term.SettleFault.TheVariants as settle_fault
use Rattle.reg_core.specs.Laws.{TermStands, StillGiven}
use Rattle.reg_core.specs.MayBeGiven.{IsDuly, IsOwnEntry, IsEntry, IsGivenDuly, place_of}
use Rattle.reg_core.specs.declared.ask.Ask.TheVariants.{Code, Early, Renew, Permanent, Block}
use Rattle.reg_core.proofs.Allowances.{allowed_duly}
use Rattle.reg_core.proofs.Outcomes.Dues.{Gives}
use Rattle.reg_core.proofs.Keeping.Entries.{standing_term}
use Rattle.reg_core.proofs.Terms.{renewal_is, settlement_is, latest_day}
use Rattle.reg_early.proofs.YearAfter.{no_earlier}

-- ---- Terms

-- what expires is not permanent
not_permanent : {P : Type 0} (expires : Option ℕ) → IsSome expires → expires ≡ None → P
not_permanent expires some none = let gone = ap is_some none in absurd (cc)

-- a term may have come to itself
pub term_stands : (IsRenewed : ℕ → ℕ → Type 0) (term : Term) → TermStands IsRenewed term term
term_stands IsRenewed term = record {
  first = refl;
  permanent = λ none. refl;
  renewed = λ h. h;
  expires = λ was is at_was at_is.
      let same : is ≡ was = cc in (omega (arith, same), inl (same, refl));
  settled = not_permanent term.expires;
}

-- and, if it expires, to itself with the other mark
pub marked_stands : (IsRenewed : ℕ → ℕ → Type 0) (term : Term) (held : Bool) → IsSome term.expires
    → TermStands IsRenewed term (held_term held term)
marked_stands IsRenewed term held some = record {
  first = refl;
  permanent = not_permanent term.expires some;
  renewed = λ h. h;
  expires = λ was is at_was at_is.
      let same : is ≡ was = cc in (omega (arith, same), inl (same, refl));
  settled = not_permanent term.expires;
}

-- a renewal on the day is one of these
abbrev pub Renews : (ℕ → ℕ → Type 0) → ℕ → Type 0
Renews IsRenewed day =
    IsDay day → (was is : ℕ) → is ≡ year_after (max was day) → IsRenewed was is

-- renewals, and others after them, are renewals of a third kind
pub record GoOn (First More All : ℕ → ℕ → Type 0) : Type 0 where
  pub first : (was is : ℕ) → First was is → All was is
  pub more : (was is : ℕ) → More was is → All was is
  pub both : (was mid is : ℕ) → First was mid → More mid is → All was is

-- what a term has come to goes on
module _ (First More All : ℕ → ℕ → Type 0) (on : GoOn First More All) (before now later : Term)
    (h : TermStands First before now) (k : TermStands More now later) where
  -- where it once has no expiry it never has one again
  gone : now.expires ≡ None → later.expires ≡ None
  gone none = ap (λ (t : Term). t.expires) (k.permanent none) ∙ none

  moved_on : (was mid is : ℕ) → before.expires ≡ Some was → now.expires ≡ Some mid
      → later.expires ≡ Some is
      → (was ≤ is) × (((is ≡ was) × (later.renewed ≡ before.renewed))
      ⊎ ((later.renewed ≡ true) × All was is))
  moved_on was mid is at_was at_mid at_is =
      let first = h.expires was mid at_was at_mid in
      let second = k.expires mid is at_mid at_is in
      let low : was ≤ is = omega (arith, first.0, second.0) in
      elim second.1 [
        | inr moved ↦
            elim first.1 [
              | inl before ↦
                  (low, inr (moved.0, on.more was is (subst (λ day. More day is) before.0 moved.1)))
              | inr earlier ↦
                  (low, inr (moved.0, on.both was mid is earlier.1 moved.1))
            ]
        | inl same ↦
            elim first.1 [
              | inl before ↦ (low, inl (same.0 ∙ before.0, same.1 ∙ before.1))
              | inr moved ↦
                  (low, inr (same.1 ∙ moved.0, on.first was is (subst (First was) (sym same.0) moved.1)))
            ]
      ]

  expires_on : (mid : Option ℕ) → now.expires ≡ mid → (was is : ℕ) → before.expires ≡ Some was
      → later.expires ≡ Some is
      → (was ≤ is) × (((is ≡ was) × (later.renewed ≡ before.renewed))
      ⊎ ((later.renewed ≡ true) × All was is))
  expires_on None none was is at_was at_is = let never = gone none in absurd (cc)
  expires_on (Some mid) at_mid was is at_was at_is = moved_on was mid is at_was at_mid at_is

  settled_on : (mid : Option ℕ) → now.expires ≡ mid → IsSome before.expires
      → later.expires ≡ None → later.held ≡ false
  settled_on None none some is =
      ap (λ (t : Term). t.held) (k.permanent none) ∙ h.settled some none
  settled_on (Some mid) at_mid some is = k.settled (ap is_some at_mid) is

  pub term_stands_on : TermStands All before later
  term_stands_on = record {
    first = k.first ∙ h.first;
    permanent = λ none.
        let same = h.permanent none in
        k.permanent (ap (λ (t : Term). t.expires) same ∙ none) ∙ same;
    renewed = λ was. k.renewed (h.renewed was);
    expires = expires_on now.expires refl;
    settled = settled_on now.expires refl;
  }

-- ---- An approval

-- a term that is renewed expires
renewed_from : (before now : Term) (day : ℕ) (iesg : Bool) → renewal before day iesg ≡ Ok now
    → IsSome before.expires
renewed_from before now day iesg = by (is_some before.expires) (is_spent before iesg)
  where
    by : (expires spent : Bool)
        → (if expires then (if spent then Err renew_fault.Renewed
        else Ok (renewed_term before day)) else Err renew_fault.Permanent) ≡ Ok now
        → expires ≡ true
    by true spent h = refl
    by false spent h = absurd (cc)

-- a term that is settled expires
settled_from : (before now : Term) → settlement before ≡ Ok now → IsSome before.expires
settled_from before now = by (is_some before.expires)
  where
    by : (expires : Bool)
        → (if expires then Ok (settled_term before) else Err settle_fault.Permanent) ≡ Ok now
        → expires ≡ true
    by true h = refl
    by false h = absurd (cc)

renewed_stands : (IsRenewed : ℕ → ℕ → Type 0) (before now : Term) (today : ℕ) (iesg : Bool)
    → has_term_form before ≡ true → IsDay today → Renews IsRenewed today
    → renewal before today iesg ≡ Ok now → TermStands IsRenewed before now
renewed_stands IsRenewed before now today iesg form day on is =
    subst (TermStands IsRenewed before) (renewal_is before today iesg now is) (record {
      first = refl;
      permanent = not_permanent before.expires (renewed_from before now today iesg is);
      renewed = λ h. refl;
      expires = moved;
      settled = never before.expires;
    })
  where
    never : (expires : Option ℕ) → IsSome expires
        → option_map (λ expiry. year_after (max expiry today)) expires ≡ None
        → before.held ≡ false
    never None some none = absurd (cc)
    never (Some expiry) some none = absurd (cc)

    moved : (was is : ℕ) → before.expires ≡ Some was
        → (renewed_term before today).expires ≡ Some is
        → (was ≤ is) × (((is ≡ was) × (true ≡ before.renewed)) ⊎ ((true ≡ true) × IsRenewed was is))
    moved was is at_was at_is =
        let latest : IsDay (max was today) = latest_day before was today form day at_was in
        let to : Some (year_after (max was today)) ≡ Some is =
        ap (option_map (λ expiry. year_after (max expiry today))) (sym at_was) ∙ at_is in
        let year : is ≡ year_after (max was today) = cc in
        let later = no_earlier (max was today) latest in (
          omega (arith, year, later),
          inr (
            refl,
            on day was is year,
          ),
        )

settled_stands : (IsRenewed : ℕ → ℕ → Type 0) (before now : Term) → settlement before ≡ Ok now
    → TermStands IsRenewed before now
settled_stands IsRenewed before now is =
    subst (TermStands IsRenewed before) (settlement_is before now is) (record {
      first = refl;
      permanent = not_permanent before.expires (settled_from before now is);
      renewed = λ was. was;
      expires = λ was is at_was at_is. absurd (cc);
      settled = λ some none. refl;
    })

-- a term that an approval moves may have come to that
moved_term_stands : (IsRenewed : ℕ → ℕ → Type 0) (place : Place) (today : ℕ) (ask : Ask)
    (before now : Term) → has_term_form before ≡ true → IsDay today → Renews IsRenewed today
    → MovesTerm place today ask before now → TermStands IsRenewed before now
moved_term_stands IsRenewed place today (Renew ask) before now form day on moves =
    renewed_stands IsRenewed before now today (is_some ask.iesg) form day on moves.1
moved_term_stands IsRenewed place today (Permanent ask) before now form day on moves =
    settled_stands IsRenewed before now moves.1
moved_term_stands IsRenewed place today ask before now form day on moves = absurd moves

-- ---- What is given

-- what a pending request is given is given duly
pub given_duly : (w : World) → WellKept w → (today : ℕ) (account reference : List ℕ)
    (entry : Entry)
    → Gives w today (account, reference) entry → IsGivenDuly w today account reference entry
given_duly w kept today account reference entry gives =
    let was = gives.pending in
    let itself : was.case ≡ pending gives.ask =
    λ i. record { ask = gives.asks i; state = was.state i } in
    record {
      ask = gives.ask;
      request = was.is_there ∙ ap Some itself;
      duly =
          subst (IsDuly w today account gives.ask) gives.is
          (allowed_duly w kept account gives.ask today _ gives.award gives.allows refl);
    }

-- the entry is one that stands, of the account's own, in the term to which an ask moves it
pub record Moves (today : ℕ) (account : List ℕ) (ask : Ask) (a : Registration)
    (entry : Entry) : Type 0 where
  pub label : entry.label ≡ a.label
  pub assignee : entry.assignee ≡ a.assignee
  pub own : a.assignee ≡ account
  pub term : MovesTerm (place_of entry) today ask a.term entry.term

module _ (w : World) (today : ℕ) (account : List ℕ) (entry : Entry) where
  -- at the place of a new entry there is none
  not_new : {P : Type 0} (registry : List ℕ) (a : Registration) → entry.registry ≡ registry
      → get w.entries (registry, entry.value) ≡ None → get w.entries (place_of entry) ≡ Some a → P
  not_new registry a same free is =
      let gone = (λ i. get w.entries (same i, entry.value)) ∙ free in absurd (cc)

  -- the entry that is kept is the one that stands, in the term to which it is moved
  kept_one : (ask : Ask) (registry : List ℕ) (v : ℕ) (own a : Registration) (term : Term)
      → IsEntry account registry own.label term entry → entry.value ≡ v
      → IsOwnEntry w account registry v own → get w.entries (place_of entry) ≡ Some a
      → ((registry, v) ≡ place_of entry → own ≡ a
      → MovesTerm (place_of entry) today ask a.term entry.term)
      → Moves today account ask a entry
  kept_one ask registry v own a term entry_is at_v stands is moves =
      let place : (registry, v) ≡ place_of entry =
      sym (λ i. (entry_is.registry_is i, at_v i)) in
      let same : own ≡ a = cc in
      let mine = ap (λ (r : Registration). r.assignee) (sym same) ∙ stands.own in
      record {
        label = entry_is.label_is ∙ ap (λ (r : Registration). r.label) same;
        assignee = entry_is.assignee_is ∙ sym mine;
        own = mine;
        term = moves place same;
      }

  -- where an entry stands, it is this one that is given
  pub given_moves : (ask : Ask) → IsDuly w today account ask entry → (a : Registration)
      → get w.entries (place_of entry) ≡ Some a → Moves today account ask a entry
  given_moves (Code ask) duly a is = not_new ask.registry a duly.0.registry_is duly.1.free is
  given_moves (Early ask) duly a is = not_new ask.registry a duly.0.registry_is duly.1.free is
  given_moves (Renew ask) duly a is =
      kept_one (Renew ask) ask.registry ask.value duly.1 a duly.2 duly.3 duly.0 duly.4.entry is
      (λ place same. (
        place,
        ap (λ (r : Registration). renewal r.term today (is_some ask.iesg)) (sym same) ∙ duly.5
            ∙ ap Ok (sym duly.3.term_is),
      ))
  given_moves (Permanent ask) duly a is =
      kept_one (Permanent ask) ask.registry ask.value duly.1 a duly.2 duly.3 duly.0 duly.4.entry is
      (λ place same. (
        place,
        ap (λ (r : Registration). settlement r.term) (sym same) ∙ duly.5
            ∙ ap Ok (sym duly.3.term_is),
      ))
  given_moves (Block ask) duly a is = absurd duly

  -- so what stood there is still given
  pub still_given : (IsRenewed : ℕ → ℕ → Type 0) → Renews IsRenewed today → WellKept w → IsDay today → (ask : Ask)
      → IsDuly w today account ask entry → (a : Registration)
      → get w.entries (place_of entry) ≡ Some a
      → StillGiven IsRenewed a (Some (registration_in entry))
  still_given IsRenewed on kept day ask duly a is =
      let moves = given_moves ask duly a is in
      let form = standing_term w kept account entry (place_of entry) a is in (
        moves.label,
        moves.assignee,
        moved_term_stands IsRenewed (place_of entry) today ask a.term entry.term form day on moves.term,
      )
