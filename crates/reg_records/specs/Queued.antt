-- Requests with an expert's own advice, as rows of the query that joins them.
use Rattle.std.specs.Prelude.{Option, Some}
use Rattle.sqlite.specs.Order.{Row, column}
use Rattle.reg_records.specs.Advice.{own_advice_in}
use Rattle.reg_records.specs.Columns.{given}
use Rattle.reg_records.specs.Requests.Reading.{request_in}
use Rattle.reg_records.specs.declared.queued.QueuedRequest.{QueuedRequest}

-- the request that a row holds in the columns of a request, with the advice in the two columns
-- after these, none where both are NULL
abbrev pub queued_in : Row → Option QueuedRequest
queued_in row =
    given (request_in row) (λ request.
    given (own_advice_in (column row 25) (column row 26)) (λ advice.
    Some (record { request = request; advice = advice })))
