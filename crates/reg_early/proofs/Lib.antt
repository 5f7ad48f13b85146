pub mod StartsOfYears
pub mod DaysAreDates
pub mod CalendarIsJiffs
pub mod YearAfter
pub mod JiffYears
pub mod DayTexts
pub mod MomentsHaveDays
pub mod TermsHaveDays
pub mod TermsInWords
pub mod Dates
pub mod DaysReadBack
pub mod DaysRead
mod KnownDays
