-- The terms of entries: an early allocation lasts a year and is renewed once, and again by a minute of
-- the IESG (RFC 7120, section 3.3); while a clerk holds it, it does not expire.
use Rattle.std.specs.Prelude.{ℕ, Bool, true, false, ◌&&◌, ◌||◌, not, nat_lt, max, if◌then◌else◌, List, Option, Some, None, Result, Ok, Err, IfSome, is_some, option_map, codes}
use Rattle.reg_early.specs.declared.term.Term.{Term}
use Rattle.reg_early.specs.declared.term.Status.{Status}
use Rattle.reg_early.specs.declared.term.Status.TheVariants as status
use Rattle.reg_early.specs.declared.term.RenewFault.{RenewFault}
use Rattle.reg_early.specs.declared.term.RenewFault.TheVariants as renew_fault
use Rattle.reg_early.specs.declared.term.SettleFault.{SettleFault}
use Rattle.reg_early.specs.declared.term.SettleFault.TheVariants as settle_fault
use Rattle.reg_early.specs.Calendar.{IsDay, year_after}

-- with no expiry Assigned; else Temporary while it is held and before the expiry day, and Expired
-- from that day on
abbrev pub status_until : Bool → Option ℕ → ℕ → Status
status_until held None day = status.Assigned
status_until held (Some expiry) day =
    if held || nat_lt day expiry then status.Temporary else status.Expired

-- the status on a day of an entry with this term
abbrev pub status_on : Term → ℕ → Status
status_on term day = status_until term.held term.expires day

-- the word of a status
abbrev pub status_word : Status → List ℕ
status_word status.Assigned = codes "Assigned"
status_word status.Temporary = codes "Temporary"
status_word status.Expired = codes "Expired"

-- the term of an entry that is assigned for good on a day
abbrev pub permanent_term : ℕ → Term
permanent_term first = record { first = first; expires = None; renewed = false; held = false }

-- the term of an entry that is allocated early on a day
abbrev pub early_term : ℕ → Term
early_term first = record {
  first = first;
  expires = Some (year_after first);
  renewed = false;
  held = false;
}

-- renewed on a day: a year from the later of the old expiry day and that day, and held if it was
abbrev pub renewed_term : Term → ℕ → Term
renewed_term term approval =
    record {
      first = term.first;
      expires =
          option_map (λ expiry. year_after (max expiry approval)) term.expires;
      renewed = true;
      held = term.held;
    }

-- renewed before, and no minute of the IESG lets it be renewed again
abbrev pub is_spent : Term → Bool → Bool
is_spent term iesg = term.renewed && not iesg

-- a term is renewed, with a minute of the IESG or without one, if it has an expiry and is not spent
abbrev pub renewal : Term → ℕ → Bool → Result Term RenewFault
renewal term approval iesg =
    if is_some term.expires
    then (if is_spent term iesg then Err renew_fault.Renewed else Ok (renewed_term term approval))
    else Err renew_fault.Permanent

-- why a term is not renewed, if it is not
abbrev pub renewable : Term → Bool → Result (Unit {0}) RenewFault
renewable term iesg =
    if is_some term.expires
    then (if is_spent term iesg then Err renew_fault.Renewed else Ok tt)
    else Err renew_fault.Permanent

-- with a clerk's mark by which it is held, or without it
abbrev pub held_term : Bool → Term → Term
held_term held term = record term { held = held }

-- only what expires is held
abbrev pub may_be_held : Term → Bool
may_be_held term = not term.held || is_some term.expires

-- without its expiry, and so no longer held
abbrev pub settled_term : Term → Term
settled_term term =
    record { first = term.first; expires = None; renewed = term.renewed; held = false }

-- why a term is not settled, if it is not
abbrev pub settleable : Term → Result (Unit {0}) SettleFault
settleable term = if is_some term.expires then Ok tt else Err settle_fault.Permanent

-- a term is settled if it has an expiry
abbrev pub settlement : Term → Result Term SettleFault
settlement term =
    if is_some term.expires then Ok (settled_term term) else Err settle_fault.Permanent

-- each day of the term is a day of the calendar
abbrev pub HasDays : Term → Type 0
HasDays term = IsDay term.first × IfSome term.expires IsDay
