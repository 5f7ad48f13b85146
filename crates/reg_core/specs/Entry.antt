-- Entries with their places, and without.
use Rattle.std.specs.Prelude.{ℕ, Bool, ◌&&◌, List}
pub use Rattle.reg_early.specs.Forms.{is_day as has_day_form, has_term_form}
use Rattle.reg_early.specs.Terms.{held_term, status_on}
use Rattle.reg_ranges.specs.Texts.{is_text}
use Rattle.reg_core.specs.Names.{is_name}
use Rattle.reg_core.specs.declared.entry.Registration.{Registration}
use Rattle.reg_core.specs.declared.entry.Entry.{Entry}
use Rattle.reg_core.specs.declared.entry.PageEntry.{PageEntry}

-- an entry without its place, as a Registration; with it
abbrev pub registration_in : Entry → Registration
registration_in e = record { label = e.label; assignee = e.assignee; term = e.term }

abbrev pub entry_row : List ℕ → ℕ → Registration → Entry
entry_row registry value a =
    record {
      registry = registry;
      value = value;
      label = a.label;
      assignee = a.assignee;
      term =
          a.term;
    }

-- an entry as a page shows it on a day
abbrev pub page_entry : ℕ → ℕ → Registration → PageEntry
page_entry today value a =
    record {
      value = value;
      label = a.label;
      assignee = a.assignee;
      term = a.term;
      status =
          status_on a.term today;
    }

-- an entry with a clerk's mark by which it is held, or without it
abbrev pub with_hold : Bool → Registration → Registration
with_hold held a = record a { term = held_term held a.term }

-- ---- Forms

-- the label, the assignee and the term of an entry have their forms
abbrev pub has_registration_form : Registration → Bool
has_registration_form a = is_text a.label && is_name a.assignee && has_term_form a.term
