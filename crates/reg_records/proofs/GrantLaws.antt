-- The rows of `caps` keep capabilities: what is written reads back, and only that reads.
use Rattle.std.proofs.Common.{◌≡◌, true, refl, subst}
use Rattle.std.proofs.lemmas.Option.{same_Some}
use Rattle.sqlite.specs.Order.{column}
use Rattle.reg_core.specs.Names.{is_name, is_digest}
use Rattle.reg_records.specs.Caps.{grant_columns, grant_in, grant_values, is_grant, is_until}
use Rattle.reg_records.specs.Laws.{KeepsRows}
use Rattle.reg_records.proofs.ColumnLaws.{both, column-at, column_some, formed_texts, keeps_rows, numbers, words}
use Rattle.reg_core.proofs.WordsReadBack.{kinds_read}

pub grants_kept : KeepsRows grant_columns grant_in grant_values is_grant
grants_kept =
    keeps_rows (λ grant form.
    both _ _ form (λ digest form. both _ _ form (λ account until.
    column-at (formed_texts is_digest) grant.digest digest _ _ (
    column-at (formed_texts is_name) grant.cap.account account _ _ (
    column-at (words kinds_read) grant.cap.kind refl _ _ (
    column-at (numbers is_until) grant.cap.until until _ _ refl))))))
    (λ row grant h.
    column_some (formed_texts is_digest) (column row 0) _ grant h (λ digest is0 form0 h.
    column_some (formed_texts is_name) (column row 1) _ grant h (λ account is1 form1 h.
    column_some (words kinds_read) (column row 2) _ grant h (λ kind is2 form2 h.
    column_some (numbers is_until) (column row 3) _ grant h (λ until is3 form3 h.
    subst (λ g. (grant_columns row ≡ grant_values g) × (is_grant g ≡ true)) (same_Some _ _ h)
    (rw (is0, is1, is2, is3) refl, rw (form0, form1, form3) refl))))))
