-- The Gregorian calendar of the years 2000 to 9999, and the numbers of its days, counted from
-- 1970-01-01, which is day 0.
use Rattle.std.specs.Prelude.{ℕ, ◌+◌, ◌-◌, ◌*◌, ◌/◌, ◌%◌, Bool, ◌&&◌, ◌||◌, ◌==◌, not, nat_lt, nat_le, if◌then◌else◌, List, [], ◌∷◌, sum, take, slice_index, find, unwrap_or}
use Rattle.std.specs.Int.{IsInRange}
use Rattle.std.specs.List.{range_with_len}

-- a day from 2000-01-01 to 9999-12-31
abbrev pub IsDay : ℕ → Type 0
IsDay day = IsInRange 10957 2932896 day

-- every fourth year, but of the centuries only every fourth
unfoldable pub is_leap_year : ℕ → Bool
is_leap_year y = (y % 4 == 0) && (not (y % 100 == 0) || (y % 400 == 0))

-- the days of each month of a year, from January on
abbrev pub month_lengths : ℕ → List ℕ
month_lengths y =
    31 ∷ (if is_leap_year y then 29 else 28) ∷ 31 ∷ 30 ∷ 31 ∷ 30 ∷ 31 ∷ 31 ∷ 30 ∷ 31 ∷ 30 ∷ 31 ∷ []

-- months and days count from 1
pub record CivilDate : Type 0 where
  pub year : ℕ
  pub month : ℕ
  pub day : ℕ

-- the date of a year, a month and a day
abbrev pub civil_date : ℕ → ℕ → ℕ → CivilDate
civil_date year month day = record { year = year; month = month; day = day }

-- the calendar has the date
abbrev pub IsDate : CivilDate → Type 0
IsDate date =
    IsInRange 2000 9999 date.year × IsInRange 1 12 date.month
    × IsInRange 1 (slice_index (month_lengths date.year) (date.month - 1)) date.day

-- how many of the years 1 to y - 1 are leap years
unfoldable pub leap_years_before : ℕ → ℕ
leap_years_before y = (y - 1) / 4 - (y - 1) / 100 + (y - 1) / 400

-- the day that a year begins on: 365 days for each year since 1970, and one for each leap year
unfoldable pub start_of_year : ℕ → ℕ
start_of_year y = 365 * (y - 1970) + (leap_years_before y - leap_years_before 1970)

-- the day that a month begins on
unfoldable pub start_of_month : ℕ → ℕ → ℕ
start_of_month y m = start_of_year y + sum (take (m - 1) (month_lengths y))

-- the day of a date
unfoldable pub day_number : CivilDate → ℕ
day_number date = start_of_month date.year date.month + (date.day - 1)

-- the first year from 2000 on that ends after the day
unfoldable pub year_of : ℕ → ℕ
year_of day =
    unwrap_or (find (λ y. nat_lt day (start_of_year (y + 1))) (range_with_len 2000 8000)) 9999

-- the first month of the year that ends after the day
unfoldable pub month_of : ℕ → ℕ → ℕ
month_of y day =
    unwrap_or (find (λ m. nat_lt day (start_of_month y (m + 1))) (range_with_len 1 12)) 12

-- the date of a day
unfoldable pub date_of : ℕ → CivilDate
date_of day =
    let year = year_of day in
    let month = month_of year day in
    civil_date year month (day + 1 - start_of_month year month)

-- the same date of the next year, 28 February for 29 February, and 9999-12-31 for a date in 9999
unfoldable pub date_a_year_after : CivilDate → CivilDate
date_a_year_after date =
    if nat_le 9999 date.year then civil_date 9999 12 31
    else (if (date.month == 2) && (date.day == 29) then civil_date (date.year + 1) 2 28
    else civil_date (date.year + 1) date.month date.day)

-- the same date of the next year; 28 February for 29 February; 9999-12-31 for a day of 9999
unfoldable pub year_after : ℕ → ℕ
year_after day = day_number (date_a_year_after (date_of day))
