use Rattle.reg_early.proofs.MomentsHaveDays.{IsDay-utc_day}
use Rattle.reg_early.proofs.laws.moments_have_days.Goals as goal

pub returns : goal.returns
returns c = IsDay-utc_day
