-- Days that are read from texts.
use Rattle.std.specs.Prelude.{◌≡◌, ℕ, ◌+◌, ◌-◌, ◌*◌, ◌==◌, ◌&&◌, Bool, nat_lt, List, length, slice_index, Option, Some, None, if◌then◌else◌}
use Rattle.std.specs.Char.{is_ascii_digit}
use Rattle.reg_ranges.specs.Texts.{is_within}
use Rattle.reg_early.specs.Calendar.{CivilDate, IsDay, civil_date, day_number, month_lengths}
use Rattle.reg_early.specs.DayText.{text_of_day}

infixl 10 ◌>>=◌
abbrev pub ◌>>=◌ : {A B : Type 0} → Option A → (A → Option B) → Option B
None >>= f = None
(Some x) >>= f = f x

-- the number that two digits write
abbrev pub pair : ℕ → ℕ → Option ℕ
pair tens ones =
    if is_ascii_digit tens && is_ascii_digit ones then Some (10 * (tens - 48) + (ones - 48)) else None

-- the calendar of the years 2000 to 9999 has the date
abbrev pub is_date : CivilDate → Bool
is_date date =
    is_within 2000 9999 date.year
    && (is_within 1 12 date.month
    && is_within 1 (slice_index (month_lengths date.year) (date.month - 1)) date.day)

-- the day of a date, where the calendar has it
unfoldable pub day_at : ℕ → ℕ → ℕ → Option ℕ
day_at year month day =
    if is_date (civil_date year month day) then Some (day_number (civil_date year month day)) else None

-- the day whose year, month and day stand in a text that has a date's dashes
abbrev pub day_within : List ℕ → Option ℕ
day_within text = do
  century ← pair (slice_index text 0) (slice_index text 1)
  year ← pair (slice_index text 2) (slice_index text 3)
  month ← pair (slice_index text 5) (slice_index text 6)
  day ← pair (slice_index text 8) (slice_index text 9)
  day_at (100 * century + year) month day

-- the day that is written as YYYY-MM-DD
unfoldable pub read_day : List ℕ → Option ℕ
read_day text =
    if length text == 10 && (slice_index text 4 == 45 && slice_index text 7 == 45)
    then day_within text else None

-- the same where the day is before 3000-01-01
abbrev pub in_clock_years : ℕ → Option ℕ
in_clock_years day = if nat_lt day 376200 then Some day else None

abbrev pub read_clock_day : List ℕ → Option ℕ
read_clock_day text = read_day text >>= in_clock_years

-- the text of a day is read as that day
abbrev pub DaysReadBack : Type 0
DaysReadBack = (day : ℕ) → IsDay day → read_day (text_of_day day) ≡ Some day

-- the first moment of a day
abbrev pub midnight : ℕ → ℕ
midnight day = day * 86400
