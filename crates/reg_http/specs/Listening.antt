-- What a listener's connections do to an office.
use Rattle.std.specs.Prelude.{◌≤◌, ◌/◌, ℕ, List, length, Option, Some, None}
use Rattle.std.specs.Duration.{as_nanos}
use Rattle.std.specs.declared.time.Duration.{Duration}
use Rattle.reg_wire.specs.Exchange.{Call}
use Rattle.reg_wire.specs.Serving.{Exchange, Lead}
use Rattle.reg_wire.specs.declared.log.Sent.{Sent}
use Rattle.reg_wire.specs.declared.response.Response.{Response}

-- the moment by what the clock said: whole seconds; 0 where it failed
abbrev pub moment_by : Option Duration → ℕ
moment_by None = 0
moment_by (Some time) = as_nanos time / 1000000000

-- one where an answer was written whole
abbrev pub count_of : Option Sent → ℕ
count_of None = 0
count_of (Some sent) = 1

-- requests in turn, and nothing else, have changed the office: at most so many, and at least as
-- many as are said to be answered
pub record ChangesByTurns {S : Type 0} (Serves : S → Call → Response → S → Type 0)
    (most answered : ℕ) (before after : S) : Type 0 where
  pub turns : List Exchange
  pub few : length turns ≤ most
  pub enough : answered ≤ length turns
  pub lead : Lead Serves before turns after
