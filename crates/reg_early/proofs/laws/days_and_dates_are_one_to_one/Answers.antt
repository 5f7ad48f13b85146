use Rattle.reg_early.proofs.DaysAreDates.{IsDate-date_of, day_number-date_of, date_of-day_number, placed}
use Rattle.reg_early.proofs.laws.days_and_dates_are_one_to_one.Goals as goal

pub returns : goal.returns
returns c =
    record {
      dates = IsDate-date_of;
      back_to_days = day_number-date_of;
      days = λ date h. let there = placed date h in there.is_day;
      back_to_dates = date_of-day_number;
    }
