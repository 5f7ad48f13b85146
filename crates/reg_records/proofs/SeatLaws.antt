-- The rows of `queue` keep seats: what is written reads back, and only that reads.
use Rattle.std.proofs.Common.{◌≡◌, true, refl, subst}
use Rattle.std.proofs.lemmas.Option.{same_Some}
use Rattle.sqlite.specs.Order.{column}
use Rattle.reg_core.specs.Names.{is_name}
use Rattle.reg_records.specs.Laws.{KeepsRows}
use Rattle.reg_records.specs.Queue.{seat_columns, seat_in, seat_values, is_seat}
use Rattle.reg_records.proofs.ColumnLaws.{both, column-at, column_some, formed_texts, keeps_rows}

pub seats_kept : KeepsRows seat_columns seat_in seat_values is_seat
seats_kept =
    keeps_rows (λ seat form.
    both _ _ form (λ form expert. both _ _ form (λ account reference.
    column-at (formed_texts is_name) seat.account account _ _ (
    column-at (formed_texts is_name) seat.reference reference _ _ (
    column-at (formed_texts is_name) seat.expert expert _ _ refl)))))
    (λ row seat h.
    column_some (formed_texts is_name) (column row 0) _ seat h (λ account is0 form0 h.
    column_some (formed_texts is_name) (column row 1) _ seat h (λ reference is1 form1 h.
    column_some (formed_texts is_name) (column row 2) _ seat h (λ expert is2 form2 h.
    subst (λ s. (seat_columns row ≡ seat_values s) × (is_seat s ≡ true)) (same_Some _ _ h)
    (rw (is0, is1, is2) refl, rw (form0, form1, form2) refl)))))
