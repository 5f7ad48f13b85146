-- The text of a day is read as that day.
use Rattle.std.proofs.Common.{◌≡◌, ◌∙◌, ℕ, ◌+◌, ◌*◌, ◌/◌, ◌%◌, ◌<◌, ◌≤◌, Bool, true, false, cond, Some, pos, refl, ap, arith, lit≤}
use Rattle.std.specs.Prelude.{◌==◌}
use Rattle.std.specs.Char.{is_ascii_digit}
use Rattle.std.proofs.lemmas.Bool.Decides.{nat_tests}
use Rattle.jiff.specs.Words.{days_in_month, is_leap_year}
use Rattle.reg_early.proofs.CalendarIsJiffs.{length_of_month}
use Rattle.reg_early.specs.Calendar.{CivilDate, IsDate, IsDay, date_of, day_number}
use Rattle.reg_early.specs.DayText.{date_text, text_of_day}
use Rattle.reg_early.proofs.DaysAreDates.{IsDate-date_of, day_number-date_of}
use Rattle.reg_early.specs.DayReading.{day_at, pair, read_day}
use Rattle.reg_early.proofs.Dates.{passes}

digit : (n : ℕ) → n < 10 → is_ascii_digit (48 + n) ≡ true
digit n h = grind (arith, nat_tests)

pair_back : (n : ℕ) → n < 100 → pair (48 + n / 10) (48 + n % 10) ≡ Some n
pair_back n h =
    let tens = digit (n / 10) (omega arith) in
    let ones = digit (n % 10) (omega arith) in
    rw (tens, ones) (ap Some (omega arith))

at_date : (date : CivilDate) → IsDate date
    → day_at (100 * (date.year / 100) + date.year % 100) date.month date.day
    ≡ Some (day_number date)
unfolding day_at
at_date date h =
    let year : 100 * (date.year / 100) + date.year % 100 ≡ date.year = omega arith in
    rw (year, passes date h) refl

-- no month has a hundred days
bounded : (a b c : Bool) → cond a (cond b 29 28) (cond c 30 31) ≤ 31
bounded true true c = lit≤ tt
bounded true false c = lit≤ tt
bounded false b true = lit≤ tt
bounded false b false = lit≤ tt

day_below : (date : CivilDate) → IsDate date → date.day < 100
day_below date h =
    let length = length_of_month date.year date.month h.1.0 h.1.1 in
    let most : days_in_month (pos date.year) date.month ≤ 31 =
    bounded (date.month == 2) (is_leap_year (pos date.year)) _ in
    let last : date.day ≤ days_in_month (pos date.year) date.month = rw length h.2.1 in
    omega arith

read_date : (date : CivilDate) → IsDate date → read_day (date_text date) ≡ Some (day_number date)
unfolding read_day
read_date date h =
    let century = pair_back (date.year / 100) (omega arith) in
    let rest = pair_back (date.year % 100) (omega arith) in
    let month = pair_back date.month (omega arith) in
    let day = pair_back date.day (day_below date h) in
    rw (century, rest, month, day) (at_date date h)

pub read_back : (day : ℕ) → IsDay day → read_day (text_of_day day) ≡ Some day
read_back day h =
    read_date (date_of day) (IsDate-date_of day h) ∙ ap Some (day_number-date_of day h)
