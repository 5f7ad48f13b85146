-- Early allocations that are due.
use Rattle.std.specs.Prelude.{ℕ, ◌-◌, nat_le, List, filter_map, Option, Some, None, option_map, if◌then◌else◌}
use Rattle.reg_early.specs.declared.term.Status.{Status}
use Rattle.reg_early.specs.declared.term.Status.TheVariants.{Assigned, Temporary, Expired}
use Rattle.reg_core.specs.declared.entry.PageEntry.{PageEntry}
use Rattle.reg_core.specs.declared.page.Page.{Page}
use Rattle.reg_client.specs.declared.allocation.DueAllocation.{DueAllocation}

-- a day, if it is at most so many days after today
abbrev pub day_within : ℕ → ℕ → Option ℕ → Option ℕ
day_within today days None = None
day_within today days (Some expiry) =
    if nat_le (expiry - today) days then Some expiry else None

-- the expiry day of an entry with this status, if it is Temporary and due
abbrev pub expiry_at : Status → ℕ → ℕ → Option ℕ → Option ℕ
expiry_at Assigned today days expires = None
expiry_at Temporary today days expires = day_within today days expires
expiry_at Expired today days expires = None

abbrev pub expiry_within : ℕ → ℕ → PageEntry → Option ℕ
expiry_within today days entry = expiry_at entry.status today days entry.term.expires

-- an entry of a registry, which expires on a day
abbrev pub as_due : List ℕ → PageEntry → ℕ → DueAllocation
as_due registry entry expires =
    record {
      registry = registry;
      value = entry.value;
      description = entry.label;
      assignee = entry.assignee;
      expires = expires;
      held = entry.term.held;
    }

-- an entry of a registry, if it is due
abbrev pub due_entry : List ℕ → ℕ → ℕ → PageEntry → Option DueAllocation
due_entry registry today days entry =
    option_map (as_due registry entry) (expiry_within today days entry)

-- the entries of a page that are due, in its order
abbrev pub due_on : ℕ → ℕ → Page → List DueAllocation
due_on today days page = filter_map (due_entry page.name today days) page.entries
