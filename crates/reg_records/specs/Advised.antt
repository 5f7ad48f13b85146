-- Seats with the advice of their experts, as rows of the query that joins them.
use Rattle.std.specs.Prelude.{Option, Some}
use Rattle.sqlite.specs.Order.{Row, column}
use Rattle.reg_records.specs.Advice.{own_advice_in}
use Rattle.reg_records.specs.Columns.{given}
use Rattle.reg_records.specs.Queue.{seat_in}
use Rattle.reg_records.specs.declared.advised.AdvisedSeat.{AdvisedSeat}

-- the seat that a row holds in its first columns, and the advice after it
abbrev pub advised_in : Row → Option AdvisedSeat
advised_in row =
    given (seat_in row) (λ seat.
    given (own_advice_in (column row 3) (column row 4)) (λ advice.
    Some (record { seat = seat; advice = advice })))
