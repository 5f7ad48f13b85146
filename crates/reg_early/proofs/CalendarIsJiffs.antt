-- The calendar of the specs is jiff's.
use Rattle.std.proofs.Common.{◌≡◌, ℕ, zero, suc, ◌+◌, ◌-◌, ◌<◌, ◌≤◌, get_or, ℤ, pos, neg_ℤ, ◌+ℤ◌, ◌≤ℤ◌, refl, sym, ap, ◌∙◌, arith, rules}
use Rattle.jiff.specs.Types.{Date}
use Rattle.jiff.specs.Words.{epoch_day, IsYmd, days_in_month}
use Rattle.jiff.proofs.Family.{days_from_civil-day, days_from_civil-next_month, days_from_civil-next_year, days_from_civil-max, epoch_day_same, epoch_day_injective}
use Rattle.jiff.proofs.SpanFacts.{signed_arith}
use Rattle.reg_early.specs.Calendar.{CivilDate, civil_date, IsDate, IsDay, is_leap_year, month_lengths, leap_years_before, start_of_year, start_of_month, day_number, date_of}
use Rattle.reg_early.specs.Laws.{IsSameDate, IsJiffsDay}
use Rattle.reg_early.proofs.DaysAreDates.{IsDate-date_of, day_number-date_of}
use Rattle.reg_early.proofs.StartsOfYears.{start_of_month-next, start_of_month-first, start_of_month-end, start_of_year_end}

month_length_agrees : (y n : ℕ) → n < 12
    → days_in_month (pos y) (suc n) ≡ get_or (month_lengths y) n 0
unfolding is_leap_year
month_length_agrees y zero h = refl
month_length_agrees y (suc zero) h = refl
month_length_agrees y (suc (suc zero)) h = refl
month_length_agrees y (suc (suc (suc zero))) h = refl
month_length_agrees y (suc (suc (suc (suc zero)))) h = refl
month_length_agrees y (suc (suc (suc (suc (suc zero))))) h = refl
month_length_agrees y (suc (suc (suc (suc (suc (suc zero)))))) h = refl
month_length_agrees y (suc (suc (suc (suc (suc (suc (suc zero))))))) h = refl
month_length_agrees y (suc (suc (suc (suc (suc (suc (suc (suc zero)))))))) h = refl
month_length_agrees y (suc (suc (suc (suc (suc (suc (suc (suc (suc zero))))))))) h = refl
month_length_agrees y (suc (suc (suc (suc (suc (suc (suc (suc (suc (suc zero)))))))))) h = refl
month_length_agrees y (suc (suc (suc (suc (suc (suc (suc (suc (suc (suc (suc zero))))))))))) h =
    refl
month_length_agrees y (suc (suc (suc (suc (suc (suc (suc (suc (suc (suc (suc (suc n)))))))))))) h =
    absurd (omega arith)

days_in_month_least : (y : ℤ) (m : ℕ) → 1 ≤ days_in_month y m
days_in_month_least y m = grind arith

-- a numbering of years, months and days that counts one day after the other, up to 9999-12-31
record CountsDays (number : ℤ → ℕ → ℕ → ℤ) : Type 0 where
  same_month : (y : ℤ) (m d d₂ : ℕ) → 1 ≤ d → 1 ≤ d₂
      → number y m d +ℤ pos d₂ ≡ number y m d₂ +ℤ pos d
  next_month : (y : ℤ) (m d : ℕ) → 1 ≤ m → d ≡ days_in_month y m
      → number y (m + 1) 1 ≡ number y m d +ℤ pos 1
  next_year : (y next : ℤ) → neg_ℤ (pos 10000) ≤ℤ y → next ≡ y +ℤ pos 1
      → number next 1 1 ≡ number y 12 31 +ℤ pos 1
  last : number (pos 9999) 12 31 ≡ pos 2_932_896

start_of_month_agrees : (number : ℤ → ℕ → ℕ → ℤ) → CountsDays number → (y n : ℕ) → n < 12
    → number (pos y) (suc n) 1 +ℤ pos (start_of_year y)
    ≡ number (pos y) 1 1 +ℤ pos (start_of_month y (suc n))
start_of_month_agrees number c y zero h = rw start_of_month-first refl
start_of_month_agrees number c y (suc n) h =
    let later : suc n + 1 ≡ suc (suc n) = omega arith in
    let here : suc n - 1 ≡ n = omega arith in
    let length = month_length_agrees y n (omega arith) in
    let next =
    rw (later, length) at
    (c.next_month (pos y) (suc n) (days_in_month (pos y) (suc n)) (omega arith) refl) in
    let within =
    rw length at
    (c.same_month (pos y) (suc n) (days_in_month (pos y) (suc n)) 1
    (days_in_month_least (pos y) (suc n)) (omega arith)) in
    let start = rw (later, here) at (start_of_month-next y (suc n) (omega arith) (omega arith)) in
    omega (
      arith,
      signed_arith,
      next,
      within,
      start,
      start_of_month_agrees number c y n (omega arith),
    )

-- from one year's start to the next, in the numbering
year_agrees : (number : ℤ → ℕ → ℕ → ℤ) → CountsDays number → (y : ℕ) → 1970 ≤ y
    → number (pos y) 12 31 +ℤ pos (start_of_year y + 1)
    ≡ number (pos y) 1 1 +ℤ pos (start_of_year (y + 1))
year_agrees number c y low =
    let december = start_of_month_agrees number c y 11 (omega arith) in
    let length = start_of_month-next y 12 (omega arith) (omega arith) in
    let end = start_of_month-end y low in
    let days = c.same_month (pos y) 12 31 1 (omega arith) (omega arith) in
    omega (arith, signed_arith)

-- n years before 9999
start_of_year_agrees : (number : ℤ → ℕ → ℕ → ℤ) → CountsDays number → (n y : ℕ) → y + n ≡ 9999
    → 1970 ≤ y → number (pos y) 1 1 ≡ pos (start_of_year y)
start_of_year_agrees number c zero y e low =
    let same : y ≡ 9999 = omega arith in
    let last = c.last in
    rw same (omega
    (arith, signed_arith, last, start_of_year_end, year_agrees number c 9999 (omega arith)))
start_of_year_agrees number c (suc n) y e low =
    let next =
    c.next_year (pos y) (pos (y + 1)) (omega (arith, signed_arith))
    (omega (arith, signed_arith)) in
    omega (
      arith,
      signed_arith,
      next,
      year_agrees number c y low,
      start_of_year_agrees number c n (y + 1) (omega arith) (omega arith),
    )

number_agrees : (number : ℤ → ℕ → ℕ → ℤ) → CountsDays number → (date : CivilDate) → IsDate date
    → number (pos date.year) date.month date.day ≡ pos (day_number date)
unfolding day_number
number_agrees number c date h =
    let month : suc (date.month - 1) ≡ date.month = omega arith in
    let start =
    rw month at (start_of_month_agrees number c date.year (date.month - 1) (omega arith)) in
    let year =
    start_of_year_agrees number c (9999 - date.year) date.year (omega arith) (omega arith) in
    let day = c.same_month (pos date.year) date.month date.day 1 (omega arith) (omega arith) in
    omega (arith, signed_arith)

pub length_of_month : (y m : ℕ) → 1 ≤ m → m ≤ 12
    → days_in_month (pos y) m ≡ get_or (month_lengths y) (m - 1) 0
length_of_month y m low high =
    let same : suc (m - 1) ≡ m = omega arith in
    rw same at (month_length_agrees y (m - 1) (omega arith))

-- the date of jiff's calendar with the same year, month and day
unfoldable pub theirs : (date : CivilDate) → IsDate date → Date
theirs date h =
    let length = length_of_month date.year date.month (omega arith) (omega arith) in
    record {
      year = pos date.year;
      month = date.month;
      day = date.day;
      year_in = omega (arith, signed_arith);
      month_in = h.1;
      day_in = rw length h.2;
    }

pub day_number_agrees : (date : CivilDate) (h : IsDate date)
    → epoch_day (theirs date h) ≡ pos (day_number date)
unfolding theirs
day_number_agrees date h =
    number_agrees _
    (record {
      same_month = days_from_civil-day;
      next_month =
          days_from_civil-next_month;
      next_year = days_from_civil-next_year;
      last =
          days_from_civil-max;
    }) date h

-- 2000-01-01
abbrev first_date : CivilDate
first_date = civil_date 2000 1 1

first_date_is_date : IsDate first_date
first_date_is_date = (search rules, search rules, search rules)

first_day_number : day_number first_date ≡ 10957
unfolding day_number start_of_month start_of_year leap_years_before
first_day_number = refl

pub first_day : (d : Date) → IsYmd (pos 2000) (pos 1) (pos 1) d → epoch_day d ≡ pos 10957
unfolding theirs
first_day d h =
    let same =
    epoch_day_same d (theirs first_date first_date_is_date) h.0
    (omega (arith, signed_arith, h.1)) (omega (arith, signed_arith, h.2)) in
    same ∙ day_number_agrees first_date first_date_is_date ∙ ap pos first_day_number

-- a date of jiff's with the number of a day has the day's date
pub same_date : (d : Date) (day : ℕ) → IsDay day → epoch_day d ≡ pos day
    → IsSameDate d (date_of day)
unfolding theirs
same_date d day h e =
    let is_date = IsDate-date_of day h in
    let number = day_number_agrees (date_of day) is_date ∙ ap pos (day_number-date_of day h) in
    let same = epoch_day_injective d (theirs (date_of day) is_date) (e ∙ sym number) in
    record { year = same.0; month = same.1; day = same.2 }

-- jiff has each day
pub jiffs_day_of : (day : ℕ) → IsDay day → IsJiffsDay day
jiffs_day_of day h =
    let is_date = IsDate-date_of day h in
    let number = day_number_agrees (date_of day) is_date ∙ ap pos (day_number-date_of day h) in
    record {
      theirs = theirs (date_of day) is_date;
      number = number;
      date =
          same_date (theirs (date_of day) is_date) day h number;
    }
