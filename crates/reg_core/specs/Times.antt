-- When requests came, and when they were decided, as the journal has it.
use Rattle.std.specs.Prelude.{ℕ, Bool, false, List, find, map, Option, None, option_and_then, if◌then◌else◌}
use Rattle.std.specs.FinMap.{FinMap, entries}
use Rattle.reg_maps.specs.Maps.{same_text, only_if, select}
use Rattle.reg_core.specs.File.{same_name}
use Rattle.reg_core.specs.Request.{is_pending}
use Rattle.reg_core.specs.World.{RequestName, name_cmp}
use Rattle.reg_core.specs.declared.journal.Act.{Act}
use Rattle.reg_core.specs.declared.journal.Deed.{Deed}
use Rattle.reg_core.specs.declared.journal.Deed.TheVariants.{Submit, Withdraw, Decline, GiveValue, GiveBlock}
use Rattle.reg_core.specs.declared.request.Case.{Case}
use Rattle.reg_core.specs.declared.request.RequestTimes.{RequestTimes}

-- when a request came, and when it was approved, declined or withdrawn
pub record Times : Type 0 where
  pub submitted : Option ℕ
  pub decided : Option ℕ

-- by this the request of a name came; by this it was approved, declined or withdrawn
abbrev pub submits : RequestName → Deed → Bool
submits name (Submit account reference) = same_name (account, reference) name
submits name deed = false

abbrev pub decides : RequestName → Deed → Bool
decides name (Withdraw account reference) = same_name (account, reference) name
decides name (Decline account reference) = same_name (account, reference) name
decides name (GiveValue account reference registry value) = same_name (account, reference) name
decides name (GiveBlock account reference block) = same_name (account, reference) name
decides name deed = false

-- the moment of the last act of such a deed, if there is one, and if it has one
abbrev pub last_moment : (Deed → Bool) → List Act → Option ℕ
last_moment test journal =
    option_and_then (λ (act : Act). act.stamp.moment)
    (find (λ (act : Act). test act.deed) journal)

-- a request that waits is not decided
abbrev pub times_of : List Act → RequestName → Case → Times
times_of journal name case = record {
  submitted = last_moment (submits name) journal;
  decided = if is_pending case.state then None else last_moment (decides name) journal;
}

-- ---- Rows

-- with the name of the request; and all rows of a map
abbrev pub times_row : RequestName → Times → RequestTimes
times_row name times = record {
  account = name.0;
  reference = name.1;
  submitted = times.submitted;
  decided = times.decided;
}

abbrev pub times_rows : FinMap name_cmp Times → List RequestTimes
times_rows m = map (λ e. times_row e.0 e.1) (entries m)

-- those of the requests that an account made
abbrev pub times_of_requests_by : List ℕ → FinMap name_cmp Times → FinMap name_cmp Times
times_of_requests_by account m =
    select (λ name times. only_if (same_text name.0 account) times) m
