use Rattle.std.proofs.Common.{refl}
use Rattle.reg_early.proofs.YearAfter.{year_after-other_day, year_after-leap_day, year_after-last_year, IsDay-year_after, no_earlier, later}
use Rattle.reg_early.specs.Calendar.{civil_date}
use Rattle.reg_early.proofs.laws.year_after_is_the_same_date.Goals as goal

pub returns : goal.returns
returns c =
    record {
      same = λ y m d h low other. year_after-other_day (civil_date y m d) h low other;
      leap_day = year_after-leap_day;
      last_year = λ m d h. year_after-last_year (civil_date 9999 m d) h refl;
      is_day = IsDay-year_after;
      no_earlier = no_earlier;
      later = later;
    }
