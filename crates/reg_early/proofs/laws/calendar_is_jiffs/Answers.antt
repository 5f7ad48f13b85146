use Rattle.reg_early.proofs.CalendarIsJiffs.{same_date, jiffs_day_of}
use Rattle.reg_early.proofs.laws.calendar_is_jiffs.Goals as goal

pub returns : goal.returns
returns c = record { has = jiffs_day_of; only = same_date }
