-- The rows of `entries` keep entries: what is written reads back, and only that reads.
use Rattle.std.proofs.Common.{◌≡◌, true, Some, refl, sym, ap, ◌∙◌, subst}
use Rattle.std.proofs.lemmas.Bool.{and_from, not-true}
use Rattle.std.proofs.lemmas.Option.{same_Some}
use Rattle.sqlite.specs.Order.{column}
use Rattle.sqlite.specs.Values.{or_null}
use Rattle.reg_early.specs.Forms.{is_day}
use Rattle.reg_ranges.specs.Forms.{is_none_or}
use Rattle.reg_ranges.specs.Texts.{is_text}
use Rattle.reg_core.specs.Names.{is_name}
use Rattle.reg_core.specs.Entry.{registration_in}
use Rattle.reg_core.specs.WellKept.{has_entry_form}
use Rattle.reg_core.specs.declared.entry.Entry.{Entry}
use Rattle.reg_records.specs.Columns.{is_number, number_in, or_null_in, whole_value}
use Rattle.reg_records.specs.Entries.{EntriesReadUnheld, entry_columns, entry_in, entry_values, is_entry, unheld}
use Rattle.reg_records.specs.Laws.{KeepsRows}
use Rattle.reg_records.proofs.ColumnLaws.{IsColumn, both, column-at, column_some, flags, formed_texts, keeps_rows, numbers, or_nulls}

-- the days of expiry
expiries : IsColumn (or_null_in (number_in is_day)) (or_null whole_value) (is_none_or is_day)
expiries = or_nulls (numbers is_day) (λ n. refl)

pub entry_unheld : EntriesReadUnheld
entry_unheld entry form =
    both _ _ form (λ form rest. both _ _ form (λ registry value. both _ _ rest (λ form term.
    both _ _ form (λ label assignee. both _ _ term (λ first expires.
    column-at (formed_texts is_name) entry.registry registry _ _ (
    column-at (numbers is_number) entry.value value _ _ (
    column-at (formed_texts is_text) entry.label label _ _ (
    column-at (formed_texts is_name) entry.assignee assignee _ _ (
    column-at (numbers is_day) entry.term.first first _ _ (
    column-at expiries entry.term.expires expires _ _ (
    column-at flags entry.term.renewed refl _ _ refl)))))))))))

-- without its mark it has the form of one that a row holds
pub unheld_form : (entry : Entry)
    → has_entry_form (entry.registry, entry.value) (registration_in entry) ≡ true
    → is_entry (unheld entry) ≡ true
unheld_form entry form =
    and_from (has_entry_form (entry.registry, entry.value) (registration_in entry)) true form refl

pub entries_kept : KeepsRows entry_columns entry_in entry_values is_entry
entries_kept =
    keeps_rows (λ entry form.
    both _ _ form (λ form bare.
    entry_unheld entry form
    ∙ ap (λ held. Some (record entry { term = record entry.term { held = held } }))
    (sym (not-true entry.term.held bare))))
    (λ row entry h.
    column_some (formed_texts is_name) (column row 0) _ entry h (λ registry is0 form0 h.
    column_some (numbers is_number) (column row 1) _ entry h (λ value is1 form1 h.
    column_some (formed_texts is_text) (column row 2) _ entry h (λ label is2 form2 h.
    column_some (formed_texts is_name) (column row 3) _ entry h (λ assignee is3 form3 h.
    column_some (numbers is_day) (column row 4) _ entry h (λ first is4 form4 h.
    column_some expiries (column row 5) _ entry h (λ expires is5 form5 h.
    column_some flags (column row 6) _ entry h (λ renewed is6 form6 h.
    subst (λ e. (entry_columns row ≡ entry_values e) × (is_entry e ≡ true)) (same_Some _ _ h) (
      rw (is0, is1, is2, is3, is4, is5, is6) refl,
      rw (form0, form1, form2, form3, form4, form5) refl,
    )))))))))
