-- Moments, in seconds since 1970-01-01T00:00:00Z.
use Rattle.std.specs.Prelude.{ℕ, ◌/◌, Bool, ◌&&◌, nat_lt, nat_le, if◌then◌else◌, Option, Some, None}

-- the UTC day of the moment lies in the years 2000 to 2999
abbrev pub is_in_clock : ℕ → Bool
is_in_clock moment = nat_le 946684800 moment && nat_lt moment 32503680000

-- a day has 86,400 seconds
abbrev pub utc_day : ℕ → ℕ
utc_day moment = moment / 86400

-- the UTC day of a moment of these years
abbrev pub day_of_moment : ℕ → Option ℕ
day_of_moment moment = if is_in_clock moment then Some (utc_day moment) else None
