-- Seats in queues as rows of the table `queue`.
use Rattle.std.specs.Prelude.{Bool, ◌&&◌, [], ◌∷◌, Option, Some}
use Rattle.sqlite.specs.Order.{Row, column}
use Rattle.sqlite.specs.declared.types.Value.TheVariants.{Text}
use Rattle.reg_core.specs.Names.{is_name}
use Rattle.reg_records.specs.Columns.{formed_in, given}
use Rattle.reg_records.specs.declared.queue.Seat.{Seat}

-- the columns that are selected: account, reference, expert
abbrev pub seat_columns : Row → Row
seat_columns row = column row 0 ∷ column row 1 ∷ column row 2 ∷ []

-- the seat that a row holds, where each column has its form
abbrev pub seat_in : Row → Option Seat
seat_in row =
    given (formed_in is_name (column row 0)) (λ account.
    given (formed_in is_name (column row 1)) (λ reference.
    given (formed_in is_name (column row 2)) (λ expert.
    Some (record { account = account; reference = reference; expert = expert }))))

-- the row that is written for it
abbrev pub seat_values : Seat → Row
seat_values seat = Text seat.account ∷ Text seat.reference ∷ Text seat.expert ∷ []

-- each of its names is one
abbrev pub is_seat : Seat → Bool
is_seat seat = is_name seat.account && is_name seat.reference && is_name seat.expert
