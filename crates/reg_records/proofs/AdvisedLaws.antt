-- A row that joins a seat with an advice, or with none, reads as these.
use Rattle.std.proofs.Common.{◌≡◌, [], ◌∷◌, ◌++◌, Some, None, refl}
use Rattle.sqlite.specs.Order.{Row, column}
use Rattle.sqlite.specs.declared.types.Value.TheVariants.{Null}
use Rattle.reg_records.specs.Advice.{advice_in}
use Rattle.reg_records.specs.Advised.{advised_in}
use Rattle.reg_records.specs.Queue.{seat_columns, seat_in}
use Rattle.reg_records.specs.declared.advice.ExpertAdvice.{ExpertAdvice}
use Rattle.reg_records.specs.declared.queue.Seat.{Seat}
use Rattle.reg_records.proofs.AdviceLaws.{own_advice_back}
use Rattle.reg_records.proofs.ColumnLaws.{given-at}

-- a seat without an advice
pub advised_alone : (row : Row) (seat : Seat) → seat_in row ≡ Some seat
    → advised_in (seat_columns row ++ Null ∷ Null ∷ [])
    ≡ Some (record { seat = seat; advice = None })
advised_alone row seat is = given-at is _ _ refl

-- a seat with an advice that another row holds
pub advised_with : (row other : Row) (seat : Seat) (a : ExpertAdvice) → seat_in row ≡ Some seat
    → advice_in other ≡ Some a
    → advised_in (seat_columns row ++ column other 3 ∷ column other 4 ∷ [])
    ≡ Some (record { seat = seat; advice = Some a.advice })
advised_with row other seat a is at =
    given-at is _ _ (given-at (own_advice_back other a at) _ _ refl)
