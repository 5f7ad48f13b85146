-- The day of a date is jiff's.
use Rattle.std.proofs.Common.{◌≡◌, ◌∙◌, ℕ, ◌<◌, ◌≤◌, Bool, true, false, pos, Option, Some, None, Result, Ok, Err, refl, sym, ap, arith, subst}
use Rattle.std.specs.Prelude.{◌↔◌, IfOk, IfSome, IsOk, IsSome, nat_le}
use Rattle.std.specs.Result.{result_ok}
use Rattle.std.proofs.lemmas.Bool.{and_parts, and_from}
use Rattle.std.proofs.lemmas.Bool.Decides.{nat_tests}
use Rattle.jiff.specs.Types.{Date}
use Rattle.jiff.specs.Words.{epoch_day, IsYmd, days_in_month}
use Rattle.jiff.specs.Words as jiff
use Rattle.jiff.proofs.Family.{epoch_day_same}
use Rattle.jiff.proofs.SpanFacts.{signed_arith}
use Rattle.reg_ranges.specs.Texts.{is_within}
use Rattle.reg_early.specs.Calendar.{CivilDate, civil_date, IsDate, IsDay, day_number}
use Rattle.reg_early.proofs.CalendarIsJiffs.{day_number_agrees, length_of_month, theirs}
use Rattle.reg_early.proofs.DaysAreDates.{placed}
use Rattle.reg_early.specs.DayReading.{day_at, is_date}

within : (low high n : ℕ) → is_within low high n ≡ true → (low ≤ n) × (n ≤ high)
within low high n h = (grind (arith, nat_tests), grind (arith, nat_tests))

within_from : (low high n : ℕ) → low ≤ n → n ≤ high → is_within low high n ≡ true
within_from low high n l h = grind (arith, nat_tests)

-- the test of a date
pub tested : (date : CivilDate) → is_date date ≡ true → IsDate date
tested date h =
    let first = and_parts (is_within 2000 9999 date.year) _ h in
    let second = and_parts (is_within 1 12 date.month) _ first.1 in (
      within 2000 9999 date.year first.0,
      within 1 12 date.month second.0,
      within 1 _ date.day second.1,
    )

pub passes : (date : CivilDate) → IsDate date → is_date date ≡ true
passes date h =
    and_from _ _ (within_from 2000 9999 date.year h.0.0 h.0.1)
    (and_from _ _ (within_from 1 12 date.month h.1.0 h.1.1)
    (within_from 1 _ date.day h.2.0 h.2.1))

to_jiff : (y m d : ℕ) → IsDate (civil_date y m d) → jiff.IsDate (pos y) (pos m) (pos d)
to_jiff y m d h =
    let length = length_of_month y m h.1.0 h.1.1 in
    let last : d ≤ days_in_month (pos y) m = rw length h.2.1 in (
      (omega (arith, signed_arith), omega (arith, signed_arith)),
      (omega (arith, signed_arith), omega (arith, signed_arith)),
      (omega (arith, signed_arith), omega (arith, signed_arith)),
    )

from_jiff : (y m d : ℕ) → 2000 ≤ y → jiff.IsDate (pos y) (pos m) (pos d)
    → IsDate (civil_date y m d)
from_jiff y m d late h =
    let low : 1 ≤ m = omega (arith, signed_arith, h.1.0) in
    let high : m ≤ 12 = omega (arith, signed_arith, h.1.1) in
    let last : d ≤ days_in_month (pos y) m = omega (arith, signed_arith, h.2.1) in
    let within_month = rw (length_of_month y m low high) at last in (
      (late, omega (arith, signed_arith, h.0.1)),
      (low, high),
      (omega (arith, signed_arith, h.2.0), within_month),
    )

pub too_early : (y m d : ℕ) → y < 2000 → day_at y m d ≡ None
unfolding day_at
too_early y m d early =
    let low : nat_le 2000 y ≡ false = grind (arith, nat_tests) in
    rw low refl

-- a date that jiff does not have is none
pub not_there : (y m d : ℕ) → (jiff.IsDate (pos y) (pos m) (pos d) → ⊥) → day_at y m d ≡ None
unfolding day_at
not_there y m d missing = by (is_date (civil_date y m d)) refl
  where
    by : (b : Bool) → is_date (civil_date y m d) ≡ b → day_at y m d ≡ None
    by true is = absurd (missing (to_jiff y m d (tested (civil_date y m d) is)))
    by false is = rw is refl

-- one that it has is a day, of the same number
pub record IsThere (y m d : ℕ) (theirs : Date) : Type 0 where
  pub day : day_at y m d ≡ Some (day_number (civil_date y m d))
  pub number : epoch_day theirs ≡ pos (day_number (civil_date y m d))
  pub is_day : IsDay (day_number (civil_date y m d))

pub there : {E : Type 0} (y m d : ℕ) (r : Result Date E) (date : Date) → 2000 ≤ y
    → result_ok r ≡ Some date → (IsOk r ↔ jiff.IsDate (pos y) (pos m) (pos d))
    → IfOk r (IsYmd (pos y) (pos m) (pos d)) → IsThere y m d date
unfolding theirs day_at
there {E} y m d (Ok x) date late is ok parts =
    let same : x ≡ date = cc in
    let h = from_jiff y m d late (ok.0 refl) in
    let placed_there = placed (civil_date y m d) h in
    let number = epoch_day_same x (theirs (civil_date y m d) h) parts.0
    (omega (arith, signed_arith, parts.1)) (omega (arith, signed_arith, parts.2))
    ∙ day_number_agrees (civil_date y m d) h in
    record {
      day = rw (passes (civil_date y m d) h) refl;
      number = subst (λ (z : Date). epoch_day z ≡ pos (day_number (civil_date y m d))) same number;
      is_day = placed_there.is_day;
    }
there {E} y m d (Err e) date late is ok parts = absurd (cc)

-- the day of a number that is one
pub day_is : (o : Option ℕ) (given n : ℕ) → given ≡ n → IsDay n → (IsSome o ↔ IsDay given)
    → IfSome o (λ day. day ≡ given) → o ≡ Some n
day_is (Some day) given n same is_day accepted value = ap Some (value ∙ same)
day_is None given n same is_day accepted value =
    absurd (let some = accepted.1 (subst IsDay (sym same) is_day) in cc)
