-- The rows of `registries` keep registries: what is written reads back, and only that reads.
use Rattle.std.proofs.Common.{◌≡◌, true, refl, subst}
use Rattle.std.proofs.lemmas.Option.{same_Some}
use Rattle.sqlite.specs.Order.{column}
use Rattle.reg_core.specs.Names.{is_name}
use Rattle.reg_records.specs.Columns.{is_number}
use Rattle.reg_records.specs.Laws.{KeepsRows}
use Rattle.reg_records.specs.Registries.{registry_columns, registry_in, registry_values, is_registry}
use Rattle.reg_records.proofs.ColumnLaws.{both, column-at, column_some, formed_texts, keeps_rows, numbers}

pub registries_kept : KeepsRows registry_columns registry_in registry_values is_registry
registries_kept =
    keeps_rows (λ registry form.
    both _ _ form (λ name max.
    column-at (formed_texts is_name) registry.name name _ _ (
    column-at (numbers is_number) registry.max max _ _ refl)))
    (λ row registry h.
    column_some (formed_texts is_name) (column row 0) _ registry h (λ name is0 form0 h.
    column_some (numbers is_number) (column row 1) _ registry h (λ max is1 form1 h.
    subst (λ r. (registry_columns row ≡ registry_values r) × (is_registry r ≡ true))
    (same_Some _ _ h)
    (rw (is0, is1) refl, rw (form0, form1) refl))))
