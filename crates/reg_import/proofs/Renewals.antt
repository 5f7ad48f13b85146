-- The days of an import: when its lines are given, and when an early allocation was renewed.
use Rattle.std.proofs.Common.{◌≡◌, ◌-◌, ◌*◌, ◌<◌, ◌≤◌, ℕ, Bool, true, false, cond, refl, subst, arith}
use Rattle.std.specs.Prelude.{Option, Some, None, Result, Ok, Err, nat_lt, nat_le, ◌==◌, ◌&&◌, max}
use Rattle.std.specs.Cmp.{first_so, second_so}
use Rattle.std.proofs.lemmas.Bool.Decides.{nat_tests}
use Rattle.std.proofs.Math.Nat.{mul-div_cancel}
use Rattle.reg_early.specs.Calendar.{year_after}
use Rattle.reg_early.specs.DayReading.{midnight}
use Rattle.reg_early.specs.Forms.{is_day}
use Rattle.reg_early.specs.Moment.{is_in_clock, utc_day}
use Rattle.reg_import.specs.Rows.{may_renew, renewal_for, renewal_on}
use Rattle.reg_import.specs.Years.{or_else, year_before, year_before_by}
use Rattle.reg_import.specs.declared.fault.ImportRowFault.{ImportRowFault}
use Rattle.reg_import.specs.declared.fault.ImportRowFault.TheVariants as fault

-- ---- Days

pub day_of_midnight : (day : ℕ) → utc_day (midnight day) ≡ day
day_of_midnight day = mul-div_cancel day (omega arith)

pub open_day : (day : ℕ) → is_in_clock (midnight day) ≡ true → (10957 ≤ day) × (day < 376200)
open_day day h =
    let first : 946684800 ≤ day * 86400 = grind (arith, nat_tests) in
    let last : day * 86400 < 32503680000 = grind (arith, nat_tests) in
    (omega arith, omega arith)

-- ---- Renewals

pub longer_term : (a b : ℕ) → a ≤ b → max a b ≡ b
longer_term a b h = grind (arith, nat_tests)

-- where the year of a day ends on the day of expiry
ends_then : (test : Bool) (day expires : ℕ) → (test && year_after day == expires) ≡ true
    → year_after day ≡ expires
ends_then test day expires h =
    let ends : (year_after day == expires) ≡ true = second_so test (year_after day == expires) h in
    grind (arith, nat_tests)

chosen : (test : Bool) (there day expires : ℕ)
    → (test ≡ true → year_after there ≡ expires) → cond test (Some there) None ≡ Some day
    → year_after day ≡ expires
chosen true there day expires so h =
    let same : there ≡ day = cc in
    subst (λ (d : ℕ). year_after d ≡ expires) same (so refl)
chosen false there day expires so h = absurd (cc)

before_by : (expires days day : ℕ) → year_before_by expires days ≡ Some day
    → year_after day ≡ expires
before_by expires days day h =
    chosen (is_day (expires - days) && year_after (expires - days) == expires) (expires - days) day
    expires (ends_then (is_day (expires - days)) (expires - days) expires) h

either : (a b : Option ℕ) (day expires : ℕ) → (a ≡ Some day → year_after day ≡ expires)
    → (b ≡ Some day → year_after day ≡ expires) → or_else a b ≡ Some day
    → year_after day ≡ expires
either (Some x) b day expires one two h = one h
either None b day expires one two h = two h

-- what is so of a renewal: it ends on the day of expiry, and no term was longer before
pub record Renews (first expires day : ℕ) : Type 0 where
  pub ends : year_after day ≡ expires
  pub late : year_after first ≤ day
  pub soon : day < 376200

renewed_on : (first expires day : ℕ) (o : Option ℕ) → year_before expires ≡ o
    → renewal_on first o ≡ Ok (Some day) → Renews first expires day
renewed_on first expires day None is h = absurd (cc)
renewed_on first expires day (Some d) is h = by (may_renew first d) refl h
  where
    by : (b : Bool) → may_renew first d ≡ b
        → cond {A = Result (Option ℕ) ImportRowFault} b (Ok (Some d)) (Err fault.Expiry) ≡ Ok (Some day)
        → Renews first expires day
    by false may h = absurd (cc)
    by true may h =
        let same : d ≡ day = cc in
        let late : nat_le (year_after first) d ≡ true = first_so (nat_le (year_after first) d) _ may in
        let soon : nat_lt d 376200 ≡ true = second_so (nat_le (year_after first) d) _ may in
        subst (Renews first expires) same (record {
          ends = either (year_before_by expires 366) (year_before_by expires 365) d expires
              (before_by expires 366 d) (before_by expires 365 d) is;
          late = grind (arith, nat_tests);
          soon = grind (arith, nat_tests);
        })

pub renewal_of : (first expires day : ℕ) → renewal_for first expires ≡ Ok (Some day)
    → Renews first expires day
renewal_of first expires day h = by (year_after first == expires) h
  where
    by : (b : Bool) → cond b (Ok None) (renewal_on first (year_before expires)) ≡ Ok (Some day)
        → Renews first expires day
    by true h = absurd (cc)
    by false h = renewed_on first expires day (year_before expires) refl h

pub no_renewal : (first expires : ℕ) → renewal_for first expires ≡ Ok None
    → year_after first ≡ expires
no_renewal first expires h = by (year_after first == expires) refl h
  where
    never : (o : Option ℕ) → renewal_on first o ≡ Ok None → year_after first ≡ expires
    never None h = absurd (cc)
    never (Some d) h = refused (may_renew first d) h
      where
        refused : (b : Bool)
            → cond {A = Result (Option ℕ) ImportRowFault} b (Ok (Some d)) (Err fault.Expiry) ≡ Ok None
            → year_after first ≡ expires
        refused true h = absurd (cc)
        refused false h = absurd (cc)

    by : (b : Bool) → (year_after first == expires) ≡ b
        → cond b (Ok None) (renewal_on first (year_before expires)) ≡ Ok None
        → year_after first ≡ expires
    by true is h = grind (arith, nat_tests)
    by false is h = never (year_before expires) h

-- the first letters of the two words of references
pub letters_differ : ◌≡◌ {A = ℕ} 114 105 → ⊥
letters_differ same = omega arith
