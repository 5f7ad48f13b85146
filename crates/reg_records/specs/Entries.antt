-- Entries as rows of the table `entries`.
use Rattle.std.specs.Prelude.{◌≡◌, Bool, true, false, ◌&&◌, not, [], ◌∷◌, Option, Some}
use Rattle.sqlite.specs.Order.{Row, column}
use Rattle.sqlite.specs.Values.{or_null}
use Rattle.sqlite.specs.declared.types.Value.TheVariants.{Text}
use Rattle.reg_early.specs.Forms.{is_day}
use Rattle.reg_early.specs.Terms.{held_term}
use Rattle.reg_ranges.specs.Texts.{is_text}
use Rattle.reg_core.specs.Entry.{registration_in}
use Rattle.reg_core.specs.Names.{is_name}
use Rattle.reg_core.specs.WellKept.{has_entry_form}
use Rattle.reg_core.specs.declared.entry.Entry.{Entry}
use Rattle.reg_records.specs.Columns.{flag_in, flag_value, formed_in, given, is_number, number_in, or_null_in, whole_value}

-- the columns that are selected: registry, value, label, assignee, first, expires, renewed
abbrev pub entry_columns : Row → Row
entry_columns row =
    column row 0 ∷ column row 1 ∷ column row 2 ∷ column row 3 ∷ column row 4 ∷ column row 5
    ∷ column row 6 ∷ []

-- the entry that a row holds, where each column has its form; its mark, if it is held, is a row of
-- another table
abbrev pub entry_in : Row → Option Entry
entry_in row =
    given (formed_in is_name (column row 0)) (λ registry.
    given (number_in is_number (column row 1)) (λ value.
    given (formed_in is_text (column row 2)) (λ label.
    given (formed_in is_name (column row 3)) (λ assignee.
    given (number_in is_day (column row 4)) (λ first.
    given (or_null_in (number_in is_day) (column row 5)) (λ expires.
    given (flag_in (column row 6)) (λ renewed.
    Some (record {
      registry = registry;
      value = value;
      label = label;
      assignee = assignee;
      term = record { first = first; expires = expires; renewed = renewed; held = false };
    }))))))))

-- the row that is written for it
abbrev pub entry_values : Entry → Row
entry_values entry =
    Text entry.registry ∷ whole_value entry.value ∷ Text entry.label ∷ Text entry.assignee
    ∷ whole_value entry.term.first ∷ or_null whole_value entry.term.expires
    ∷ flag_value entry.term.renewed ∷ []

-- its place and its registration have their forms, and it has no mark
abbrev pub is_entry : Entry → Bool
is_entry entry =
    has_entry_form (entry.registry, entry.value) (registration_in entry) && not entry.term.held

-- the entry without its mark
abbrev pub unheld : Entry → Entry
unheld entry = record entry { term = held_term false entry.term }

-- what is written for an entry reads as it without its mark
abbrev pub EntriesReadUnheld : Type 0
EntriesReadUnheld =
    (entry : Entry)
    → has_entry_form (entry.registry, entry.value) (registration_in entry) ≡ true
    → entry_in (entry_values entry) ≡ Some (unheld entry)
