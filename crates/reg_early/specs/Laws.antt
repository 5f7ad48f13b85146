-- The laws of the calendar and of terms.
use Rattle.std.specs.Prelude.{◌≡◌, ◌↔◌, ◌⊎◌, Bool, true, false, ℕ, ◌+◌, ◌<◌, ◌≤◌, pos, Some, None, Ok, Err, IsSome}
use Rattle.jiff.specs.Types.{Date}
use Rattle.jiff.specs.Words.{epoch_day}
use Rattle.reg_early.specs.declared.term.Term.{Term}
use Rattle.reg_early.specs.declared.term.Status.TheVariants as status
use Rattle.reg_early.specs.declared.term.RenewFault.{RenewFault}
use Rattle.reg_early.specs.declared.term.RenewFault.TheVariants as renew_fault
use Rattle.reg_early.specs.declared.term.SettleFault.{SettleFault}
use Rattle.reg_early.specs.declared.term.SettleFault.TheVariants as settle_fault
use Rattle.reg_early.specs.Moment.{is_in_clock, utc_day}
use Rattle.reg_early.specs.Terms.{HasDays, status_on, permanent_term, early_term, held_term, renewed_term, renewal, renewable, settled_term, settlement, settleable}
use Rattle.reg_early.specs.Calendar.{IsDay, CivilDate, civil_date, IsDate, day_number, date_of, year_after}

-- each day has one date, and each date is that of one day
pub record DaysAreDates : Type 0 where
  pub dates : (day : ℕ) → IsDay day → IsDate (date_of day)
  pub back_to_days : (day : ℕ) → IsDay day → day_number (date_of day) ≡ day
  pub days : (date : CivilDate) → IsDate date → IsDay (day_number date)
  pub back_to_dates : (date : CivilDate) → IsDate date → date_of (day_number date) ≡ date

-- a date of jiff's calendar has this year, month and day
pub record IsSameDate (theirs : Date) (date : CivilDate) : Type 0 where
  pub year : theirs.year ≡ pos date.year
  pub month : theirs.month ≡ date.month
  pub day : theirs.day ≡ date.day

-- jiff has each day, and gives it the same date and the same number
pub record IsJiffsDay (day : ℕ) : Type 0 where
  pub theirs : Date
  pub number : epoch_day theirs ≡ pos day
  pub date : IsSameDate theirs (date_of day)

-- the calendar is jiff's on every day, and no other date of jiff's has the number of the day
pub record CalendarIsJiffs : Type 0 where
  pub has : (day : ℕ) → IsDay day → IsJiffsDay day
  pub only : (theirs : Date) (day : ℕ) → IsDay day → epoch_day theirs ≡ pos day
      → IsSameDate theirs (date_of day)

-- the same date a year on, but for 29 February and the days of 9999
pub record YearAfterIsTheSameDate : Type 0 where
  pub same : (year month day : ℕ) → IsDate (civil_date year month day) → year < 9999
      → ¬ ((month ≡ 2) × (day ≡ 29))
      → year_after (day_number (civil_date year month day))
      ≡ day_number (civil_date (year + 1) month day)
  pub leap_day : (year : ℕ) → IsDate (civil_date year 2 29)
      → year_after (day_number (civil_date year 2 29)) ≡ day_number (civil_date (year + 1) 2 28)
  pub last_year : (month day : ℕ) → IsDate (civil_date 9999 month day)
      → year_after (day_number (civil_date 9999 month day)) ≡ day_number (civil_date 9999 12 31)
  pub is_day : (day : ℕ) → IsDay day → IsDay (year_after day)
  pub no_earlier : (day : ℕ) → IsDay day → day ≤ year_after day
  pub later : (day : ℕ) → IsDay day → day < 2932896 → day < year_after day

-- a moment of the clock's years has a day of the calendar
abbrev pub MomentsHaveDays : Type 0
MomentsHaveDays = (moment : ℕ) → is_in_clock moment ≡ true → IsDay (utc_day moment)

-- terms that begin and are renewed on days of the calendar keep to them
pub record TermsHaveDays : Type 0 where
  pub permanent : (first : ℕ) → IsDay first → HasDays (permanent_term first)
  pub early : (first : ℕ) → IsDay first → HasDays (early_term first)
  pub renewed : (term : Term) (approval : ℕ) → HasDays term → IsDay approval
      → HasDays (renewed_term term approval)
  pub settled : (term : Term) → HasDays term → HasDays (settled_term term)
  pub held : (term : Term) (held : Bool) → HasDays term → HasDays (held_term held term)

-- ---- Terms, in words of dates

-- a date and the same date a year later: 28 February for 29 February, and the last of all for a
-- date of 9999
pub record IsYearLater (date later : CivilDate) : Type 0 where
  pub same : date.year < 9999 → ¬ ((date.month ≡ 2) × (date.day ≡ 29))
      → later ≡ civil_date (date.year + 1) date.month date.day
  pub leap_day : (date.month ≡ 2) × (date.day ≡ 29) → later ≡ civil_date (date.year + 1) 2 28
  pub last_year : date.year ≡ 9999 → later ≡ civil_date 9999 12 31

-- a day and the day of the same date a year later
abbrev pub IsYearAfter : ℕ → ℕ → Type 0
IsYearAfter day later = IsDay later × IsYearLater (date_of day) (date_of later)

-- an entry is Temporary on each day before its expiry, and on every day while it is held; where it is
-- not held, it is Expired on that day and on each day after it; one without expiry is Assigned on
-- every day
pub record StatusesFollowTheExpiry : Type 0 where
  pub assigned : (term : Term) (day : ℕ) → term.expires ≡ None
      → status_on term day ≡ status.Assigned
  pub temporary : (term : Term) (expiry day : ℕ) → term.expires ≡ Some expiry → day < expiry
      → status_on term day ≡ status.Temporary
  pub held : (term : Term) (expiry day : ℕ) → term.expires ≡ Some expiry → term.held ≡ true
      → status_on term day ≡ status.Temporary
  pub expired : (term : Term) (expiry day : ℕ) → term.expires ≡ Some expiry → term.held ≡ false
      → expiry ≤ day → status_on term day ≡ status.Expired

-- the term begins on the day, was not renewed, and is not held
abbrev pub BeginsOn : ℕ → Term → Type 0
BeginsOn first term = (term.first ≡ first) × (term.renewed ≡ false) × (term.held ≡ false)

-- what is assigned for good has no expiry, and what is allocated early expires a year later
pub record EarlyTermsLastAYear : Type 0 where
  pub permanent : (first : ℕ) → BeginsOn first (permanent_term first)
      × ((permanent_term first).expires ≡ None)
  pub early : (first : ℕ) → IsDay first → BeginsOn first (early_term first)
      × (expiry : ℕ) × IsYearAfter first expiry × ((early_term first).expires ≡ Some expiry)

-- the term now expires a year after a day, is marked as renewed, and is the same in all else
abbrev pub IsRenewedFrom : ℕ → Term → Term → Type 0
IsRenewedFrom day before now =
    (expiry : ℕ) × IsYearAfter day expiry
    × (now ≡ record before { expires = Some expiry; renewed = true })

-- it was not renewed before, or a minute of the IESG lets it be renewed again
abbrev pub MayGoOn : Term → Bool → Type 0
MayGoOn term iesg = (term.renewed ≡ false) ⊎ (iesg ≡ true)

-- a renewal before the expiry day runs to a year after that day, a later one to a year after its
-- own; and nothing is renewed that has no expiry, or a second time without a minute of the IESG
pub record RenewalsLastAYear : Type 0 where
  pub permanent : (term : Term) (today : ℕ) (iesg : Bool) → term.expires ≡ None
      → renewal term today iesg ≡ Err renew_fault.Permanent
  pub again : (term : Term) (today : ℕ) → IsSome term.expires → term.renewed ≡ true
      → renewal term today false ≡ Err renew_fault.Renewed
  pub in_time : (term : Term) (expiry today : ℕ) (iesg : Bool) → term.expires ≡ Some expiry
      → MayGoOn term iesg → IsDay expiry → today ≤ expiry
      → (now : Term) × (renewal term today iesg ≡ Ok now) × IsRenewedFrom expiry term now
  pub late : (term : Term) (expiry today : ℕ) (iesg : Bool) → term.expires ≡ Some expiry
      → MayGoOn term iesg → IsDay today → expiry ≤ today
      → (now : Term) × (renewal term today iesg ≡ Ok now) × IsRenewedFrom today term now
  -- whether it can be is known before the day is
  pub known : (term : Term) (today : ℕ) (iesg : Bool) (fault : RenewFault)
      → (renewable term iesg ≡ Err fault) ↔ (renewal term today iesg ≡ Err fault)

-- what expires loses its expiry, and with it a clerk's mark, and keeps all else
pub record SettledTermsAreForGood : Type 0 where
  pub permanent : (term : Term) → term.expires ≡ None
      → settlement term ≡ Err settle_fault.Permanent
  pub settled : (term : Term) → IsSome term.expires
      → settlement term ≡ Ok (record term { expires = None; held = false })
  pub known : (term : Term) (fault : SettleFault)
      → (settleable term ≡ Err fault) ↔ (settlement term ≡ Err fault)
