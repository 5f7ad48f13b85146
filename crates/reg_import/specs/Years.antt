-- The days on which renewals are approved.
use Rattle.std.specs.Prelude.{ℕ, ◌-◌, ◌==◌, ◌&&◌, Option, Some, None, if◌then◌else◌}
use Rattle.reg_early.specs.Calendar.{year_after}
use Rattle.reg_early.specs.Forms.{is_day}

-- the day so many days before another, where its year ends on that one
abbrev pub year_before_by : ℕ → ℕ → Option ℕ
year_before_by day days =
    if is_day (day - days) && year_after (day - days) == day then Some (day - days) else None

abbrev pub or_else : Option ℕ → Option ℕ → Option ℕ
or_else (Some x) other = Some x
or_else None other = other

-- the day one year before: the one whose year ends on the day, and of 28 and 29 February the earlier
abbrev pub year_before : ℕ → Option ℕ
year_before day = or_else (year_before_by day 366) (year_before_by day 365)
