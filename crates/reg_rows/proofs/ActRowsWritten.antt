-- The rows of acts that are written.
use Rattle.std.proofs.Common.{◌≡◌, ℕ, ◌/◌, ◌%◌, pos, length, List, ◌∷◌, ◌++◌, Option, Some, None, refl}
use Rattle.sqlite.specs.Cast.{cast, cast_all}
use Rattle.sqlite.specs.Values.{or_null}
use Rattle.sqlite.specs.Kind.TheVariants as kind
use Rattle.sqlite.specs.declared.types.Value.TheVariants.{Text}
use Rattle.reg_core.specs.declared.journal.Actor.{Actor}
use Rattle.reg_core.specs.declared.journal.Deed.{Deed}
use Rattle.reg_core.specs.declared.journal.Deed.TheVariants.{Grant}
use Rattle.reg_records.specs.Acts.{act_values, actor_values, moment_values}
use Rattle.reg_records.specs.Columns.{whole_value}
use Rattle.reg_records.specs.Deeds.{deed_values}
use Rattle.reg_records.specs.declared.acts.NumberedAct.{NumberedAct}
use Rattle.reg_tables.specs.Schema.{journal_table}
use Rattle.reg_tables.proofs.Library.Casts.{cast_int, cast_null}

-- ---- What is written is stored as it is

day_kept : (moment : Option ℕ) → cast kind.Integer (or_null (λ m. whole_value (m / 86400)) moment)
    ≡ or_null (λ m. whole_value (m / 86400)) moment
day_kept None = cast_null
day_kept (Some m) = cast_int (pos (m / 86400))

second_kept : (moment : Option ℕ) → cast kind.Integer (or_null (λ m. whole_value (m % 86400)) moment)
    ≡ or_null (λ m. whole_value (m % 86400)) moment
second_kept None = cast_null
second_kept (Some m) = cast_int (pos (m % 86400))

account_kept : (by : Option Actor)
    → cast kind.Text (or_null (λ a. Text a.account) by) ≡ or_null (λ a. Text a.account) by
account_kept None = refl
account_kept (Some a) = refl

token_kept : (by : Option Actor)
    → cast kind.Text (or_null (λ a. Text a.token) by) ≡ or_null (λ a. Text a.token) by
token_kept None = refl
token_kept (Some a) = refl

ruleset kept = (
  cast_int,
  cast_null,
  day_kept,
  second_kept,
  account_kept,
  token_kept,
)

-- a column for each of the table's
pub act_long : (d : Deed) (a : NumberedAct) → a.act.deed ≡ d
    → length (act_values a) ≡ length journal_table.columns
act_long (Grant account token) a is = rw is refl
act_long deed a is = rw is refl

pub act_kept : (number : ℕ) (moment : Option ℕ) (by : Option Actor) (d : Deed)
    → cast_all journal_table.columns
    (whole_value number ∷ (moment_values moment ++ actor_values by) ++ deed_values d)
    ≡ whole_value number ∷ (moment_values moment ++ actor_values by) ++ deed_values d
act_kept number moment by (Grant account token) = simp kept
act_kept number moment by deed = simp kept
