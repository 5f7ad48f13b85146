-- Laws of the rows of requests.
use Rattle.std.specs.Prelude.{◌≡◌, true, ◌++◌, Some}
use Rattle.std.specs.FinMap.{get}
use Rattle.sqlite.specs.Order.{Row}
use Rattle.reg_core.specs.Request.{case_of, has_state_form, request_row}
use Rattle.reg_core.specs.WellKept.{WellKept, has_request_form}
use Rattle.reg_core.specs.World.{World, RequestName}
use Rattle.reg_core.specs.declared.request.Case.{Case}
use Rattle.reg_core.specs.declared.request.Request.{Request}
use Rattle.reg_core.specs.declared.request.State.{State}
use Rattle.reg_records.specs.Requests.Forms.{gives_its_kind, is_request}
use Rattle.reg_core.specs.Minutes.{bare}
use Rattle.reg_records.specs.Requests.Reading.{columns, request_columns, request_in}
use Rattle.reg_records.specs.Requests.Values.{request_values, state_values}

-- the row with the columns of another state
abbrev pub with_state : State → Row → Row
with_state state row = columns row 0 22 ++ state_values state

-- the columns of the state alone put a request in another state
abbrev pub StatesAreReplaced : Type 0
StatesAreReplaced =
    (row : Row) (request : Request) (state : State) → request_in row ≡ Some request
    → has_state_form state ≡ true → gives_its_kind request.ask state ≡ true
    → request_in (with_state state row) ≡ Some (record request { state = state })

-- what a row has past the columns of the table does not count
abbrev pub RowsReadByTheirColumns : Type 0
RowsReadByTheirColumns = (row : Row) → request_in (request_columns row) ≡ request_in row

-- each request of a well kept world can be written, without its minute
abbrev pub KeptRequestsHaveRows : Type 0
KeptRequestsHaveRows =
    (w : World) → WellKept w → (name : RequestName) (case : Case) → get w.requests name ≡ Some case
    → is_request (bare (request_row name case)) ≡ true

-- what is written for a request reads as it without its minute
abbrev pub RequestsReadBare : Type 0
RequestsReadBare =
    (request : Request)
    → has_request_form (request.account, request.reference) (case_of request) ≡ true
    → gives_its_kind request.ask request.state ≡ true
    → request_in (request_values request) ≡ Some (bare request)
