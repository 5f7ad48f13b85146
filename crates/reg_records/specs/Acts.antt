-- Acts with their numbers, as rows of the table `journal`.
use Rattle.std.specs.Prelude.{ℕ, ◌+◌, ◌*◌, ◌/◌, ◌%◌, ◌^◌, Bool, nat_lt, ◌&&◌, if◌then◌else◌, List, [], ◌∷◌, ◌++◌, Option, Some, None, option_map}
use Rattle.sqlite.specs.Order.{Row, column}
use Rattle.sqlite.specs.Values.{or_null}
use Rattle.sqlite.specs.declared.types.Value.TheVariants.{Text}
use Rattle.reg_ranges.specs.Forms.{is_none_or}
use Rattle.reg_core.specs.Names.{is_first_digits, is_name}
use Rattle.reg_core.specs.declared.journal.Actor.{Actor}
use Rattle.reg_core.specs.declared.journal.Stamp.{Stamp}
use Rattle.reg_records.specs.Columns.{formed_in, is_number, number_in, or_null_in, whole_in, whole_value}
use Rattle.reg_records.specs.Deeds.{deed_in, deed_values, is_deed}
use Rattle.reg_records.specs.Requests.Reading.{◌>>=◌, columns, name_in}
use Rattle.reg_records.specs.declared.acts.NumberedAct.{NumberedAct}

-- ---- When

-- a number of 64 bits
abbrev pub is_long : ℕ → Bool
is_long n = nat_lt n (2 ^ 64)

-- the moment at this second of this day since 1970-01-01, if 64 bits count it
abbrev pub moment_at : ℕ → ℕ → Option ℕ
moment_at day second =
    (if nat_lt second 86400 && is_long (day * 86400 + second) then Some (day * 86400 + second)
    else None)

-- both, or neither
abbrev pub moment_by : Option ℕ → Option ℕ → Option (Option ℕ)
moment_by None None = Some None
moment_by (Some day) (Some second) = option_map Some (moment_at day second)
moment_by day second = None

unfoldable pub moment_in : Row → Option (Option ℕ)
moment_in row = do
  day ← or_null_in whole_in (column row 1)
  second ← or_null_in whole_in (column row 2)
  moment_by day second

-- day, second
abbrev pub moment_values : Option ℕ → Row
moment_values moment =
    or_null (λ m. whole_value (m / 86400)) moment
    ∷ or_null (λ m. whole_value (m % 86400)) moment ∷ []

-- ---- By whom

-- both, or neither
abbrev pub actor_by : Option (List ℕ) → Option (List ℕ) → Option (Option Actor)
actor_by None None = Some None
actor_by (Some account) (Some token) = Some (Some (record { account = account; token = token }))
actor_by account token = None

unfoldable pub actor_in : Row → Option (Option Actor)
actor_in row = do
  account ← or_null_in name_in (column row 3)
  token ← or_null_in (formed_in is_first_digits) (column row 4)
  actor_by account token

-- actor, token
abbrev pub actor_values : Option Actor → Row
actor_values by = or_null (λ a. Text a.account) by ∷ or_null (λ a. Text a.token) by ∷ []

-- its account and its digits have their forms
abbrev pub is_actor : Actor → Bool
is_actor actor = is_name actor.account && is_first_digits actor.token

-- ---- Both

-- when and by whom, in four columns
unfoldable pub stamp_in : Row → Option Stamp
stamp_in row = do
  moment ← moment_in row
  by ← actor_in row
  Some (record { moment = moment; by = by })

-- day, second, actor, token
abbrev pub stamp_values : Stamp → Row
stamp_values stamp = moment_values stamp.moment ++ actor_values stamp.by

-- 64 bits count its moment, and its actor has the form
abbrev pub is_stamp : Stamp → Bool
is_stamp stamp = is_none_or is_long stamp.moment && is_none_or is_actor stamp.by

-- ---- The row

-- the columns that are selected, all of the table
abbrev pub act_columns : Row → Row
act_columns row = columns row 0 13

-- the act that a row holds, with its number, where each column has its form
unfoldable pub act_in : Row → Option NumberedAct
act_in row = do
  number ← number_in is_number (column row 0)
  stamp ← stamp_in row
  deed ← deed_in row
  Some (record { number = number; act = record { stamp = stamp; deed = deed } })

-- the row that is written for it
abbrev pub act_values : NumberedAct → Row
act_values numbered =
    whole_value numbered.number ∷ stamp_values numbered.act.stamp ++ deed_values numbered.act.deed

-- its number, its stamp and what was done have their forms
abbrev pub is_numbered_act : NumberedAct → Bool
is_numbered_act numbered =
    is_number numbered.number && is_stamp numbered.act.stamp && is_deed numbered.act.deed
