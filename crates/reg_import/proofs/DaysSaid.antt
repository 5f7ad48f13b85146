-- A text that is read as a day is the text of that day.
use Rattle.std.proofs.Common.{◌≡◌, ◌∙◌, ℕ, ◌+◌, ◌-◌, ◌*◌, ◌/◌, ◌%◌, ◌<◌, ◌≤◌, Bool, true, false, List, [], ◌∷◌, ◌++◌, length, append_assoc, refl, sym, ap, arith}
use Rattle.std.specs.Prelude.{◌==◌, ◌&&◌, Option, Some, None, codes, if◌then◌else◌, slice_index}
use Rattle.std.specs.Char.{is_ascii_digit}
use Rattle.std.specs.Cmp.{first_so, second_so}
use Rattle.std.proofs.lemmas.Bool.Decides.{nat_tests}
use Rattle.reg_early.specs.Calendar.{civil_date, date_of, day_number}
use Rattle.reg_early.specs.DayReading.{◌>>=◌, day_at, day_within, is_date, pair, read_day}
use Rattle.reg_early.specs.DayText.{date_text, four_digits, text_of_day, two_digits}
use Rattle.reg_early.proofs.Dates.{tested}
use Rattle.reg_early.proofs.DaysAreDates.{date_of-day_number}

-- a part that was read, and what was read behind it
part_of : {A : Type 0} (o : Option A) (f : A → Option ℕ) (day : ℕ) → (o >>= f) ≡ Some day
    → (x : A) × (o ≡ Some x) × (f x ≡ Some day)
part_of None f day h = absurd (cc)
part_of (Some x) f day h = (x, refl, h)

-- two digits are those of the number that they write
record AreDigitsOf (tens ones n : ℕ) : Type 0 where
  first : tens ≡ 48 + n / 10
  second : ones ≡ 48 + n % 10
  below : n < 100

digits_of : (tens ones n : ℕ) → pair tens ones ≡ Some n → AreDigitsOf tens ones n
digits_of tens ones n h = by (is_ascii_digit tens && is_ascii_digit ones) refl h
  where
    by : (b : Bool) → (is_ascii_digit tens && is_ascii_digit ones) ≡ b
        → (if b then Some (10 * (tens - 48) + (ones - 48)) else None) ≡ Some n
        → AreDigitsOf tens ones n
    by false t h = absurd (cc)
    by true t h =
        let tens_are = first_so (is_ascii_digit tens) (is_ascii_digit ones) t in
        let ones_are = second_so (is_ascii_digit tens) (is_ascii_digit ones) t in
        let low_tens : 48 ≤ tens = grind (arith, nat_tests) in
        let high_tens : tens ≤ 57 = grind (arith, nat_tests) in
        let low_ones : 48 ≤ ones = grind (arith, nat_tests) in
        let high_ones : ones ≤ 57 = grind (arith, nat_tests) in
        let number : 10 * (tens - 48) + (ones - 48) ≡ n = cc in
        record { first = omega arith; second = omega arith; below = omega arith }

-- the day is that of its date
date_is : (year month of day : ℕ) → day_at year month of ≡ Some day
    → date_of day ≡ civil_date year month of
unfolding day_at
date_is year month of day h = by (is_date (civil_date year month of)) refl h
  where
    by : (b : Bool) → is_date (civil_date year month of) ≡ b
        → (if b then Some (day_number (civil_date year month of)) else None) ≡ Some day
        → date_of day ≡ civil_date year month of
    by false t h = absurd (cc)
    by true t h =
        let same : day_number (civil_date year month of) ≡ day = cc in
        ap date_of (sym same)
        ∙ date_of-day_number (civil_date year month of) (tested (civil_date year month of) t)

-- a text of ten bytes
ten : (s : List ℕ) → length s ≡ 10
    → s
    ≡ slice_index s 0 ∷ slice_index s 1 ∷ slice_index s 2 ∷ slice_index s 3 ∷ slice_index s 4
    ∷ slice_index s 5 ∷ slice_index s 6 ∷ slice_index s 7 ∷ slice_index s 8 ∷ slice_index s 9 ∷ []
ten (a ∷ b ∷ c ∷ d ∷ e ∷ f ∷ g ∷ h ∷ i ∷ j ∷ []) long = refl
ten [] long = absurd (omega (arith, long))
ten (a ∷ []) long = absurd (omega (arith, long))
ten (a ∷ b ∷ []) long = absurd (omega (arith, long))
ten (a ∷ b ∷ c ∷ []) long = absurd (omega (arith, long))
ten (a ∷ b ∷ c ∷ d ∷ []) long = absurd (omega (arith, long))
ten (a ∷ b ∷ c ∷ d ∷ e ∷ []) long = absurd (omega (arith, long))
ten (a ∷ b ∷ c ∷ d ∷ e ∷ f ∷ []) long = absurd (omega (arith, long))
ten (a ∷ b ∷ c ∷ d ∷ e ∷ f ∷ g ∷ []) long = absurd (omega (arith, long))
ten (a ∷ b ∷ c ∷ d ∷ e ∷ f ∷ g ∷ h ∷ []) long = absurd (omega (arith, long))
ten (a ∷ b ∷ c ∷ d ∷ e ∷ f ∷ g ∷ h ∷ i ∷ []) long = absurd (omega (arith, long))
ten (a ∷ b ∷ c ∷ d ∷ e ∷ f ∷ g ∷ h ∷ i ∷ j ∷ k ∷ more) long = absurd (omega (arith, long))

-- four digits of a century and a year in it
four : (century year : ℕ) → year < 100
    → four_digits (100 * century + year)
    ≡ (48 + century / 10) ∷ (48 + century % 10) ∷ (48 + year / 10) ∷ (48 + year % 10) ∷ []
four century year below =
    let front : (100 * century + year) / 100 ≡ century = omega arith in
    let back : (100 * century + year) % 100 ≡ year = omega arith in
    rw (front, back) refl

within : (s : List ℕ) (day : ℕ) → length s ≡ 10 → slice_index s 4 ≡ 45 → slice_index s 7 ≡ 45
    → day_within s ≡ Some day → s ≡ text_of_day day
within s day long first second h =
    let century = part_of (pair (slice_index s 0) (slice_index s 1)) _ day h in
    let year = part_of (pair (slice_index s 2) (slice_index s 3)) _ day century.2 in
    let month = part_of (pair (slice_index s 5) (slice_index s 6)) _ day year.2 in
    let of = part_of (pair (slice_index s 8) (slice_index s 9)) _ day month.2 in
    let c = digits_of (slice_index s 0) (slice_index s 1) century.0 century.1 in
    let y = digits_of (slice_index s 2) (slice_index s 3) year.0 year.1 in
    let m = digits_of (slice_index s 5) (slice_index s 6) month.0 month.1 in
    let d = digits_of (slice_index s 8) (slice_index s 9) of.0 of.1 in
    let date = date_is (100 * century.0 + year.0) month.0 of.0 day of.2 in
    ten s long
    ∙ (λ i.
    c.first i ∷ c.second i ∷ y.first i ∷ y.second i ∷ first i ∷ m.first i ∷ m.second i ∷ second i
    ∷ d.first i ∷ d.second i ∷ [])
    ∙ ap (λ (f : List ℕ). f ++ 45 ∷ (48 + month.0 / 10) ∷ (48 + month.0 % 10) ∷ 45
    ∷ (48 + of.0 / 10) ∷ (48 + of.0 % 10) ∷ []) (sym (four century.0 year.0 y.below))
    ∙ regroup (four_digits (100 * century.0 + year.0)) month.0 of.0
    ∙ ap date_text (sym date)
  where
    regroup : (f : List ℕ) (month of : ℕ)
        → f ++ 45 ∷ (48 + month / 10) ∷ (48 + month % 10) ∷ 45 ∷ (48 + of / 10) ∷ (48 + of % 10) ∷ []
        ≡ f ++ codes "-" ++ two_digits month ++ codes "-" ++ two_digits of
    regroup f month of = simp append_assoc

pub day_text : (s : List ℕ) (day : ℕ) → read_day s ≡ Some day → s ≡ text_of_day day
unfolding read_day
day_text s day h =
    by (length s == 10 && (slice_index s 4 == 45 && slice_index s 7 == 45)) refl h
  where
    by : (b : Bool) → (length s == 10 && (slice_index s 4 == 45 && slice_index s 7 == 45)) ≡ b
        → (if b then day_within s else None) ≡ Some day → s ≡ text_of_day day
    by false t h = absurd (cc)
    by true t h =
        let one = first_so (length s == 10) (slice_index s 4 == 45 && slice_index s 7 == 45) t in
        let both = second_so (length s == 10) (slice_index s 4 == 45 && slice_index s 7 == 45) t in
        let two = first_so (slice_index s 4 == 45) (slice_index s 7 == 45) both in
        let three = second_so (slice_index s 4 == 45) (slice_index s 7 == 45) both in
        within s day (grind (arith, nat_tests)) (grind (arith, nat_tests))
        (grind (arith, nat_tests)) h
