-- The rows of `holds` keep marks: what is written reads back, and only that reads.
use Rattle.std.proofs.Common.{◌≡◌, true, refl, subst}
use Rattle.std.proofs.lemmas.Option.{same_Some}
use Rattle.sqlite.specs.Order.{column}
use Rattle.reg_core.specs.Names.{is_name}
use Rattle.reg_records.specs.Columns.{is_number}
use Rattle.reg_records.specs.Holds.{hold_columns, hold_in, hold_values, is_hold}
use Rattle.reg_records.specs.Laws.{KeepsRows}
use Rattle.reg_records.proofs.ColumnLaws.{both, column-at, column_some, formed_texts, keeps_rows, numbers}

pub holds_kept : KeepsRows hold_columns hold_in hold_values is_hold
holds_kept =
    keeps_rows (λ hold form.
    both _ _ form (λ registry value.
    column-at (formed_texts is_name) hold.registry registry _ _ (
    column-at (numbers is_number) hold.value value _ _ refl)))
    (λ row hold h.
    column_some (formed_texts is_name) (column row 0) _ hold h (λ registry is0 form0 h.
    column_some (numbers is_number) (column row 1) _ hold h (λ value is1 form1 h.
    subst (λ s. (hold_columns row ≡ hold_values s) × (is_hold s ≡ true)) (same_Some _ _ h)
    (rw (is0, is1) refl, rw (form0, form1) refl))))
