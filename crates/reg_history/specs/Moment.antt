-- Moments as texts.
use Rattle.std.specs.Prelude.{ℕ, ◌/◌, ◌%◌, List, [], ◌++◌, codes, option_map, unwrap_or}
use Rattle.reg_early.specs.DayText.{text_of_day, two_digits}
use Rattle.reg_early.specs.Moment.{day_of_moment}

-- the time of a day, in seconds since it began
abbrev pub time_text : ℕ → List ℕ
time_text seconds =
    two_digits (seconds / 3600)
    ++ (codes ":" ++ (two_digits (seconds / 60 % 60) ++ (codes ":" ++ two_digits (seconds % 60))))

-- the date-time of RFC 3339, section 5.6, in UTC; nothing outside the years 2000 to 2999
abbrev pub moment_text : ℕ → List ℕ
moment_text moment =
    unwrap_or
    (option_map (λ day. text_of_day day ++ (codes "T" ++ (time_text (moment % 86400) ++ codes "Z")))
    (day_of_moment moment))
    []
