-- The terms of entries: what a renewal and a settlement make of them, that they keep to days, and that
-- only what expires is held.
use Rattle.std.proofs.Common.{◌≡◌, ℕ, max, Bool, true, false, not, ◌||◌, refl, subst, arith}
use Rattle.std.specs.Prelude.{Option, Some, None, Ok, Err, IfSome, IsSome, is_some, option_map, if◌then◌else◌}
use Rattle.std.specs.Cmp.{first_so, second_so}
use Rattle.std.specs.Cmp.Derive.{both_true}
use Rattle.std.proofs.lemmas.Bool.Decides.{nat_tests}
use Rattle.reg_ranges.specs.Forms.{is_none_or}
use Rattle.reg_early.specs.Calendar.{IsDay, year_after}
use Rattle.reg_early.specs.Forms.{is_day, has_term_form}
use Rattle.reg_early.specs.Terms.{HasDays, permanent_term, early_term, renewed_term, is_spent, renewal, renewable, settled_term, settlement, settleable, held_term, may_be_held}
use Rattle.reg_early.specs.declared.term.Term.{Term}
use Rattle.reg_early.specs.declared.term.RenewFault.TheVariants as renew_fault
use Rattle.reg_early.specs.declared.term.SettleFault.TheVariants as settle_fault
use Rattle.reg_early.proofs.TermsHaveDays.{HasDays-renewed_term}
use Rattle.reg_early.proofs.YearAfter.{IsDay-year_after}
use Rattle.reg_core.specs.Allowance.{may_renew, may_settle}

-- ---- Renewals and settlements

-- a term that may be renewed is renewed on each day
pub renews : (term : Term) (iesg : Bool) (u : Unit {0}) → may_renew (renewable term iesg) ≡ Ok u
    → (day : ℕ) → renewal term day iesg ≡ Ok (renewed_term term day)
renews term iesg u may day = by (is_some term.expires) (is_spent term iesg) may
  where
    by : (expires spent : Bool)
        → may_renew (if expires
        then (if spent then Err renew_fault.Renewed else Ok tt)
        else Err renew_fault.Permanent) ≡ Ok u
        → (if expires
        then (if spent then Err renew_fault.Renewed else Ok (renewed_term term day))
        else Err renew_fault.Permanent) ≡ Ok (renewed_term term day)
    by true false may = refl
    by true true may = absurd (cc)
    by false spent may = absurd (cc)

-- and one that may be settled is settled
pub settles : (term : Term) (u : Unit {0}) → may_settle (settleable term) ≡ Ok u
    → settlement term ≡ Ok (settled_term term)
settles term u may = by (is_some term.expires) may
  where
    by : (expires : Bool)
        → may_settle (if expires then Ok tt else Err settle_fault.Permanent) ≡ Ok u
        → (if expires then Ok (settled_term term) else Err settle_fault.Permanent)
        ≡ Ok (settled_term term)
    by true may = refl
    by false may = absurd (cc)

-- what a term is renewed to is the renewed term
pub renewal_is : (term : Term) (day : ℕ) (iesg : Bool) (now : Term) → renewal term day iesg ≡ Ok now
    → renewed_term term day ≡ now
renewal_is term day iesg now h = by (is_some term.expires) (is_spent term iesg) h
  where
    by : (expires spent : Bool)
        → (if expires
        then (if spent then Err renew_fault.Renewed else Ok (renewed_term term day))
        else Err renew_fault.Permanent) ≡ Ok now
        → renewed_term term day ≡ now
    by true false h = cc
    by true true h = absurd (cc)
    by false spent h = absurd (cc)

-- and what it is settled to is the settled term
pub settlement_is : (term now : Term) → settlement term ≡ Ok now → settled_term term ≡ now
settlement_is term now h = by (is_some term.expires) h
  where
    by : (expires : Bool)
        → (if expires then Ok (settled_term term) else Err settle_fault.Permanent) ≡ Ok now
        → settled_term term ≡ now
    by true h = cc
    by false h = absurd (cc)

-- ---- Days

day_from : (day : ℕ) → is_day day ≡ true → IsDay day
day_from day h = grind (arith, nat_tests, h)

day_form : (day : ℕ) → IsDay day → is_day day ≡ true
day_form day h = grind (arith, nat_tests, h)

expiry_from : (expires : Option ℕ) → is_none_or is_day expires ≡ true → IfSome expires IsDay
expiry_from None h = tt
expiry_from (Some expiry) h = day_from expiry h

expiry_form : (expires : Option ℕ) → IfSome expires IsDay → is_none_or is_day expires ≡ true
expiry_form None h = refl
expiry_form (Some expiry) h = day_form expiry h

days_from : (term : Term) → has_term_form term ≡ true → HasDays term
days_from term h = (
  day_from term.first (first_so (is_day term.first) (is_none_or is_day term.expires) h),
  expiry_from term.expires (second_so (is_day term.first) (is_none_or is_day term.expires) h),
)

days_form : (term : Term) → HasDays term → has_term_form term ≡ true
days_form term h = both_true (day_form term.first h.0) (expiry_form term.expires h.1)

-- the later of the expiry day and another is a day
pub latest_day : (term : Term) (expiry day : ℕ) → has_term_form term ≡ true → IsDay day
    → term.expires ≡ Some expiry → IsDay (max expiry day)
latest_day term expiry day form h is =
    let its : IsDay expiry = subst (λ e. IfSome e IsDay) is (days_from term form).1 in
    (omega (arith, its, h), omega (arith, its, h))

-- the terms of entries that are given on a day have days
pub permanent_form : (today : ℕ) → is_day today ≡ true → has_term_form (permanent_term today) ≡ true
permanent_form today h = both_true h refl

pub early_form : (today : ℕ) → is_day today ≡ true → has_term_form (early_term today) ≡ true
early_form today h = both_true h (day_form _ (IsDay-year_after today (day_from today h)))

-- and so do those that are renewed on one, and those that are settled
pub renewal_form : (term : Term) (today : ℕ) (iesg : Bool) (now : Term)
    → has_term_form term ≡ true → is_day today ≡ true → renewal term today iesg ≡ Ok now
    → has_term_form now ≡ true
renewal_form term today iesg now form day h =
    subst (λ t. has_term_form t ≡ true) (renewal_is term today iesg now h)
    (days_form (renewed_term term today)
    (HasDays-renewed_term term today (days_from term form) (day_from today day)))

pub settlement_form : (term now : Term) → has_term_form term ≡ true → settlement term ≡ Ok now
    → has_term_form now ≡ true
settlement_form term now form h =
    subst (λ t. has_term_form t ≡ true) (settlement_is term now h)
    (both_true (first_so (is_day term.first) (is_none_or is_day term.expires) form) refl)

-- ---- Marks

-- what expires may be held
pub held_form : (term : Term) (held : Bool) → IsSome term.expires
    → may_be_held (held_term held term) ≡ true
held_form term held expires = by held term.expires expires
  where
    by : (held : Bool) (expires : Option ℕ) → IsSome expires → (not held || is_some expires) ≡ true
    by false expires h = refl
    by true None h = absurd (cc)
    by true (Some expiry) h = refl

-- so may what is renewed, where it was held as it may be
pub renewal_held : (term : Term) (today : ℕ) (iesg : Bool) (now : Term) → may_be_held term ≡ true
    → renewal term today iesg ≡ Ok now → may_be_held now ≡ true
renewal_held term today iesg now may h =
    subst (λ t. may_be_held t ≡ true) (renewal_is term today iesg now h)
    (by term.held term.expires may)
  where
    by : (held : Bool) (expires : Option ℕ) → (not held || is_some expires) ≡ true
        → (not held || is_some (option_map (λ expiry. year_after (max expiry today)) expires))
        ≡ true
    by false expires h = refl
    by true None h = absurd (cc)
    by true (Some expiry) h = refl

-- and what is settled is not held
pub settlement_held : (term now : Term) → settlement term ≡ Ok now → may_be_held now ≡ true
settlement_held term now h =
    subst (λ t. may_be_held t ≡ true) (settlement_is term now h) refl
