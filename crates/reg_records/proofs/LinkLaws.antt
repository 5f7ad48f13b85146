-- Rows keep links: what is written reads back, and only that reads.
use Rattle.std.proofs.Common.{◌≡◌, true, refl, subst}
use Rattle.std.proofs.lemmas.Option.{same_Some}
use Rattle.sqlite.specs.Order.{column}
use Rattle.reg_core.specs.Names.{is_name}
use Rattle.reg_records.specs.Links.{is_link, link_columns, link_in, link_values}
use Rattle.reg_records.specs.Laws.{KeepsRows}
use Rattle.reg_records.proofs.ColumnLaws.{both, column-at, column_some, formed_texts, keeps_rows}

pub links_kept : KeepsRows link_columns link_in link_values is_link
links_kept =
    keeps_rows (λ link form.
    both _ _ form (λ principal agent.
    column-at (formed_texts is_name) link.principal principal _ _ (
    column-at (formed_texts is_name) link.agent agent _ _ refl)))
    (λ row link h.
    column_some (formed_texts is_name) (column row 0) _ link h (λ principal is0 form0 h.
    column_some (formed_texts is_name) (column row 1) _ link h (λ agent is1 form1 h.
    subst (λ l. (link_columns row ≡ link_values l) × (is_link l ≡ true)) (same_Some _ _ h)
    (rw (is0, is1) refl, rw (form0, form1) refl))))
