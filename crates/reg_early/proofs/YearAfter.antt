-- The year after a date and after a day.
use Rattle.std.proofs.Common.{◌≡◌, ◌≢◌, ℕ, ◌+◌, ◌-◌, ◌<◌, ◌≤◌, ◌⊎◌, inl, inr, Bool, true, false, get_or, pos, refl, ap, subst, ◌∙◌, arith, rules, if◌then◌else◌}
use Rattle.std.proofs.lemmas.Bool.{cases_lt, cases_eq}
use Rattle.std.proofs.lemmas.Bool.Decides.{nat_tests}
use Rattle.jiff.specs.Words.{days_in_month}
use Rattle.reg_early.specs.Calendar.{CivilDate, civil_date, IsDate, IsDay, is_leap_year, leap_years_before, month_lengths, start_of_year, start_of_month, day_number, date_of, date_a_year_after, year_after}
use Rattle.reg_early.specs.Laws.{IsYearAfter}
use Rattle.reg_early.proofs.DaysAreDates.{IsDate-date_of, day_number-date_of, date_of-day_number, placed}
use Rattle.reg_early.proofs.CalendarIsJiffs.{length_of_month}

pub not_leap_after : (y : ℕ) → is_leap_year y ≡ true → is_leap_year (y + 1) ≡ false
unfolding is_leap_year
not_leap_after y h = grind (arith, nat_tests)

-- months but February are as long in the next year
same_length : (y m : ℕ) → m ≢ 2 → days_in_month (pos (y + 1)) m ≡ days_in_month (pos y) m
same_length y m h = grind arith

-- the three cases of the year after a date
pub last_year : (date : CivilDate) → 9999 ≤ date.year
    → date_a_year_after date ≡ civil_date 9999 12 31
unfolding date_a_year_after
last_year date h = grind (arith, nat_tests)

pub leap_day : (date : CivilDate) → date.year < 9999 → date.month ≡ 2 → date.day ≡ 29
    → date_a_year_after date ≡ civil_date (date.year + 1) 2 28
unfolding date_a_year_after
leap_day date h m d = grind (arith, nat_tests)

pub other_day : (date : CivilDate) → date.year < 9999 → (date.month ≢ 2) ⊎ (date.day ≢ 29)
    → date_a_year_after date ≡ civil_date (date.year + 1) date.month date.day
unfolding date_a_year_after
other_day date h (inl m) = grind (arith, nat_tests)
other_day date h (inr d) = grind (arith, nat_tests)

pub cases_day : (date : CivilDate)
    → ((date.month ≡ 2) × (date.day ≡ 29)) ⊎ ((date.month ≢ 2) ⊎ (date.day ≢ 29))
cases_day date =
    elim (cases_eq date.month 2) [
      | inl m ↦ elim (cases_eq date.day 29) [ inl d ↦ inl (m, d) | inr d ↦ inr (inr d) ]
      | inr m ↦ inr (inl m)
    ]

IsDate-leap_day : (y : ℕ) → IsDate (civil_date y 2 29) → y < 9999 → IsDate (civil_date (y + 1) 2 28)
IsDate-leap_day y h low =
    ((omega arith, omega arith), (omega arith, omega arith), (omega arith, grind arith))

at_most_28 : (leap next : Bool) (d : ℕ) → d ≤ (if leap then 29 else 28) → d ≢ 29
    → d ≤ (if next then 29 else 28)
at_most_28 leap next d h other = grind arith

in_other_month : (y m d : ℕ) → 1 ≤ m → m ≤ 12 → d ≤ get_or (month_lengths y) (m - 1) 0 → m ≢ 2
    → d ≤ get_or (month_lengths (y + 1)) (m - 1) 0
in_other_month y m d low high h other =
    omega (
      arith,
      length_of_month y m low high,
      length_of_month (y + 1) m low high,
      same_length y m other,
    )

-- a day that the month has, but 29 February, it has in the next year too
pub in_next_year : (y m d : ℕ) → 1 ≤ m → m ≤ 12 → d ≤ get_or (month_lengths y) (m - 1) 0
    → (m ≢ 2) ⊎ (d ≢ 29) → d ≤ get_or (month_lengths (y + 1)) (m - 1) 0
in_next_year y m d low high h (inl other) = in_other_month y m d low high h other
in_next_year y m d low high h (inr other) =
    elim (cases_eq m 2) [
      | inl same ↦
          rw same (at_most_28 (is_leap_year y) (is_leap_year (y + 1)) d (rw same at h) other)
      | inr apart ↦ in_other_month y m d low high h apart
    ]

IsDate-other_day : (date : CivilDate) → IsDate date → date.year < 9999
    → (date.month ≢ 2) ⊎ (date.day ≢ 29) → IsDate (civil_date (date.year + 1) date.month date.day)
IsDate-other_day date h low other = (
  (omega arith, omega arith),
  h.1,
  (h.2.0, in_next_year date.year date.month date.day h.1.0 h.1.1 h.2.1 other),
)

unfoldable pub last_date : CivilDate
last_date = civil_date 9999 12 31

pub IsDate-last_date : IsDate last_date
unfolding last_date
IsDate-last_date = (search rules, search rules, search rules)

pub IsDate-a_year_after : (date : CivilDate) → IsDate date → IsDate (date_a_year_after date)
unfolding last_date
IsDate-a_year_after date h =
    elim (cases_lt date.year 9999) [
      | inl low ↦ elim (cases_day date) [
        | inl leap ↦ let month = leap.0 in let day = leap.1 in
            rw leap_day (IsDate-leap_day date.year (rw (month, day) at h) low)
        | inr other ↦ rw other_day (IsDate-other_day date h low other)
      ]
      | inr high ↦ rw last_year IsDate-last_date
    ]

pub is_leap_from : (leap : Bool) → 29 ≤ (if leap then 29 else 28) → leap ≡ true
is_leap_from true h = refl
is_leap_from false h = absurd (omega arith)

pub month-a_year_after : (date : CivilDate) → date.year < 9999
    → date.month ≡ (date_a_year_after date).month
month-a_year_after date low =
    elim (cases_day date) [
      | inl leap ↦ let month = leap.0 in let day = leap.1 in rw leap_day month
      | inr other ↦
          rw other_day refl
    ]

pub year-a_year_after : (date : CivilDate) → date.year < 9999
    → date.year + 1 ≡ (date_a_year_after date).year
year-a_year_after date low =
    elim (cases_day date) [
      | inl leap ↦ let month = leap.0 in let day = leap.1 in rw leap_day refl
      | inr other ↦
          rw other_day refl
    ]

pub IsDay-year_after : (day : ℕ) → IsDay day → IsDay (year_after day)
unfolding year_after
IsDay-year_after day h =
    let there =
    placed (date_a_year_after (date_of day))
    (IsDate-a_year_after (date_of day) (IsDate-date_of day h)) in
    there.is_day

-- any day of 9999 leads to its last
pub year_after-last : (day : ℕ) → 9999 ≤ (date_of day).year → year_after day ≡ day_number last_date
unfolding year_after last_date
year_after-last day h = ap day_number (last_year (date_of day) h)

pub year_after-day_number : (date : CivilDate) → IsDate date
    → year_after (day_number date) ≡ day_number (date_a_year_after date)
unfolding year_after
year_after-day_number date h =
    ap (λ d. day_number (date_a_year_after d)) (date_of-day_number date h)

other_from_not : (date : CivilDate) → (((date.month ≡ 2) × (date.day ≡ 29)) → ⊥)
    → (date.month ≢ 2) ⊎ (date.day ≢ 29)
other_from_not date h = elim (cases_day date) [ inl leap ↦ absurd (h leap) | inr other ↦ other ]

pub year_after-other_day : (date : CivilDate) → IsDate date → date.year < 9999
    → (((date.month ≡ 2) × (date.day ≡ 29)) → ⊥)
    → year_after (day_number date) ≡ day_number (civil_date (date.year + 1) date.month date.day)
year_after-other_day date h low other =
    year_after-day_number date h ∙ ap day_number (other_day date low (other_from_not date other))

not_leap_9999 : is_leap_year 9999 ≡ false
unfolding is_leap_year
not_leap_9999 = refl

before_9999 : (y : ℕ) → IsDate (civil_date y 2 29) → y < 9999
before_9999 y h =
    elim (cases_lt y 9999) [
      | inl low ↦ low
      | inr high ↦
          let same : y ≡ 9999 = omega arith in
          let leap = rw same at (is_leap_from (is_leap_year y) h.2.1) in
          let never = not_leap_9999 in
          absurd (cc)
    ]

pub year_after-leap_day : (y : ℕ) → IsDate (civil_date y 2 29)
    → year_after (day_number (civil_date y 2 29)) ≡ day_number (civil_date (y + 1) 2 28)
year_after-leap_day y h =
    let low = before_9999 y h in
    year_after-day_number (civil_date y 2 29) h
    ∙ ap day_number (leap_day (civil_date y 2 29) low refl refl)

pub year_after-last_year : (date : CivilDate) → IsDate date → date.year ≡ 9999
    → year_after (day_number date) ≡ day_number (civil_date 9999 12 31)
year_after-last_year date h e =
    year_after-day_number date h ∙ ap day_number (last_year date (omega arith))

pub last_number : day_number last_date ≡ 2932896
unfolding last_date day_number start_of_month start_of_year leap_years_before is_leap_year
last_number = refl

year_begins_later : (date : CivilDate) → IsDate date → date.year < 9999
    → day_number date < day_number (date_a_year_after date)
year_begins_later date h low =
    let here = placed date h in
    let there = placed (date_a_year_after date) (IsDate-a_year_after date h) in
    let began : start_of_year (date.year + 1) ≤ day_number (date_a_year_after date) =
    rw (year-a_year_after date low) there.year_began in
    omega (arith, began, here.year_ends)

-- a year after a day is no earlier, and later but for the last of all
pub no_earlier : (day : ℕ) → IsDay day → day ≤ year_after day
unfolding year_after
no_earlier day h =
    elim (cases_lt (date_of day).year 9999) [
      | inl before ↦ let begins = year_begins_later (date_of day) (IsDate-date_of day h) before in
          omega (arith, begins, day_number-date_of day h)
      | inr high ↦ omega (arith, h, year_after-last day high, last_number)
    ]

pub later : (day : ℕ) → IsDay day → day < 2932896 → day < year_after day
unfolding year_after
later day h low =
    elim (cases_lt (date_of day).year 9999) [
      | inl before ↦ let begins = year_begins_later (date_of day) (IsDate-date_of day h) before in
          omega (arith, begins, day_number-date_of day h)
      | inr high ↦ omega (arith, year_after-last day high, last_number)
    ]

-- the date of the year after a day, in words
date_of-year_after : (day : ℕ) → IsDay day → date_of (year_after day) ≡ date_a_year_after (date_of day)
unfolding year_after
date_of-year_after day h =
    date_of-day_number (date_a_year_after (date_of day))
    (IsDate-a_year_after (date_of day) (IsDate-date_of day h))

leap_day_before_9999 : (date : CivilDate) → IsDate date → (date.month ≡ 2) × (date.day ≡ 29)
    → date.year < 9999
leap_day_before_9999 date h leap =
    before_9999 date.year (subst IsDate (λ i. civil_date date.year (leap.0 i) (leap.1 i)) h)

pub IsYearAfter-year_after : (day : ℕ) → IsDay day → IsYearAfter day (year_after day)
IsYearAfter-year_after day h =
    let date = date_of day in
    let is = date_of-year_after day h in (
      IsDay-year_after day h,
      record {
        same = λ before other. is ∙ other_day date before (other_from_not date other);
        leap_day = λ leap.
            let before = leap_day_before_9999 date (IsDate-date_of day h) leap in
            is ∙ leap_day date before leap.0 leap.1;
        last_year = λ last. is ∙ last_year date (omega (arith, last));
      },
    )
