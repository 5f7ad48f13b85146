-- What is read as a day is one.
use Rattle.std.proofs.Common.{◌≡◌, ℕ, ◌+◌, ◌*◌, Bool, true, false, List, Option, Some, None, refl, subst}
use Rattle.std.specs.Prelude.{◌==◌, ◌&&◌, length, nat_lt, slice_index, if◌then◌else◌}
use Rattle.reg_early.specs.Calendar.{IsDay, civil_date, day_number}
use Rattle.reg_early.specs.DayReading.{◌>>=◌, day_at, day_within, is_date, pair, read_clock_day, read_day}
use Rattle.reg_early.proofs.Dates.{tested}
use Rattle.reg_early.proofs.DaysAreDates.{placed}

bound : {A : Type 0} (o : Option A) (f : A → Option ℕ)
    → ((x : A) (day : ℕ) → f x ≡ Some day → IsDay day) → (day : ℕ) → (o >>= f) ≡ Some day → IsDay day
bound None f each day e = absurd (cc)
bound (Some x) f each day e = each x day e

day_at-is : (year month of day : ℕ) → day_at year month of ≡ Some day → IsDay day
unfolding day_at
day_at-is year month of day e = by (is_date (civil_date year month of)) refl e
  where
    by : (b : Bool) → is_date (civil_date year month of) ≡ b
        → (if b then Some (day_number (civil_date year month of)) else None) ≡ Some day → IsDay day
    by true t e =
        let same : day_number (civil_date year month of) ≡ day = cc in
        subst IsDay same
        (placed (civil_date year month of) (tested (civil_date year month of) t)).is_day
    by false t e = absurd (cc)

day_within-is : (text : List ℕ) (day : ℕ) → day_within text ≡ Some day → IsDay day
day_within-is text =
    bound (pair (slice_index text 0) (slice_index text 1)) _ (λ century.
    bound (pair (slice_index text 2) (slice_index text 3)) _ (λ year.
    bound (pair (slice_index text 5) (slice_index text 6)) _ (λ month.
    bound (pair (slice_index text 8) (slice_index text 9)) _ (λ of.
    day_at-is (100 * century + year) month of))))

pub read_day-is : (text : List ℕ) (day : ℕ) → read_day text ≡ Some day → IsDay day
unfolding read_day
read_day-is text day e =
    by (length text == 10 && (slice_index text 4 == 45 && slice_index text 7 == 45)) e
  where
    by : (b : Bool) → (if b then day_within text else None) ≡ Some day → IsDay day
    by true e = day_within-is text day e
    by false e = absurd (cc)
