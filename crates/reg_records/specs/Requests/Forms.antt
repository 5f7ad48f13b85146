-- The form of a request that a row holds.
use Rattle.std.specs.Prelude.{Bool, true, false, ◌&&◌}
use Rattle.reg_core.specs.Request.{case_of}
use Rattle.reg_core.specs.WellKept.{has_request_form}
use Rattle.reg_core.specs.declared.ask.Ask.{Ask}
use Rattle.reg_core.specs.declared.ask.Ask.TheVariants as ask
use Rattle.reg_core.specs.declared.request.Given.{Given}
use Rattle.reg_core.specs.declared.request.Given.TheVariants as given
use Rattle.reg_core.specs.declared.request.Request.{Request}
use Rattle.reg_core.specs.declared.request.State.{State}
use Rattle.reg_core.specs.declared.request.State.TheVariants.{Pending, Approved, Declined, Withdrawn}
use Rattle.reg_core.specs.Minutes.{is_bare}

-- a block for an ask for a block, and a value for any other
abbrev pub is_of_kind : Ask → Given → Bool
is_of_kind (ask.Block ask) (given.Block block) = true
is_of_kind (ask.Block ask) (given.Value v) = false
is_of_kind ask (given.Value v) = true
is_of_kind ask (given.Block block) = false

-- what an approved request was given is of the kind that its ask is for
abbrev pub gives_its_kind : Ask → State → Bool
gives_its_kind ask Pending = true
gives_its_kind ask (Approved given) = is_of_kind ask given
gives_its_kind ask (Declined reason) = true
gives_its_kind ask Withdrawn = true

-- the request has its form, was given what its ask is for, and names no minute
abbrev pub is_request : Request → Bool
is_request request =
    has_request_form (request.account, request.reference) (case_of request)
    && gives_its_kind request.ask request.state
    && is_bare request.ask
