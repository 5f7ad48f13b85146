-- The rows of `minutes` keep minutes: what is written reads back, and only that reads.
use Rattle.std.proofs.Common.{◌≡◌, true, refl, subst}
use Rattle.std.proofs.lemmas.Option.{same_Some}
use Rattle.sqlite.specs.Order.{column}
use Rattle.reg_ranges.specs.Texts.{is_text}
use Rattle.reg_core.specs.Names.{is_name}
use Rattle.reg_records.specs.Laws.{KeepsRows}
use Rattle.reg_records.specs.Minutes.{is_minute, minute_columns, minute_in, minute_values}
use Rattle.reg_records.proofs.ColumnLaws.{both, column-at, column_some, formed_texts, keeps_rows}

pub minutes_kept : KeepsRows minute_columns minute_in minute_values is_minute
minutes_kept =
    keeps_rows (λ minute form.
    both _ _ form (λ form text. both _ _ form (λ account reference.
    column-at (formed_texts is_name) minute.account account _ _ (
    column-at (formed_texts is_name) minute.reference reference _ _ (
    column-at (formed_texts is_text) minute.minute text _ _ refl)))))
    (λ row minute h.
    column_some (formed_texts is_name) (column row 0) _ minute h (λ account is0 form0 h.
    column_some (formed_texts is_name) (column row 1) _ minute h (λ reference is1 form1 h.
    column_some (formed_texts is_text) (column row 2) _ minute h (λ text is2 form2 h.
    subst (λ m. (minute_columns row ≡ minute_values m) × (is_minute m ≡ true)) (same_Some _ _ h)
    (rw (is0, is1, is2) refl, rw (form0, form1, form2) refl)))))
