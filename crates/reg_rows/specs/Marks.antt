-- Entries with their marks, and requests with their minutes.
use Rattle.std.specs.Prelude.{◌≡◌, ℕ, Bool, true, false, ◌&&◌, List, map, Some, None, is_some, IsSome}
use Rattle.std.specs.BTreeSet.{BTreeSet, contains}
use Rattle.std.specs.FinMap.{contains_key, get}
use Rattle.std.specs.List.{list_any}
use Rattle.std.specs.Ordering.{eq_by_cmp, nat_cmp}
use Rattle.reg_core.specs.Entry.{registration_in, with_hold}
use Rattle.reg_core.specs.World.{Place, RequestName, World}
use Rattle.reg_core.specs.declared.entry.Entry.{Entry}
use Rattle.reg_core.specs.declared.entry.Registration.{Registration}
use Rattle.reg_core.specs.declared.queue.QueueRow.{QueueRow}
use Rattle.reg_core.specs.declared.request.Case.{Case}
use Rattle.reg_core.specs.declared.request.Request.{Request}
use Rattle.reg_records.specs.declared.holds.Hold.{Hold}
use Rattle.reg_core.specs.Minutes.{ask_with, is_renewal, minute_of}
use Rattle.reg_records.specs.declared.queued.QueuedRequest.{QueuedRequest}
use Rattle.reg_statements.specs.Parts.{Parts}
use Rattle.reg_rows.specs.Seats.{seen_row}

-- ---- Marks

-- an entry with a mark or without
abbrev pub entry_held : Bool → Entry → Entry
entry_held held entry =
    record entry { term = (with_hold held (registration_in entry)).term }

-- an entry of a registry with its mark, if it has one; only what expires is held
abbrev pub entry_marked : Parts → List ℕ → Entry → Entry
entry_marked p registry entry =
    entry_held (is_some entry.term.expires && contains_key p.holds (registry, entry.value)) entry

-- an entry that is held if it expires and its value is among these
abbrev pub marked_by : BTreeSet ℕ → Entry → Entry
marked_by values entry =
    entry_held (is_some entry.term.expires && contains nat_cmp values entry.value) entry

-- and among those of these marks
abbrev pub is_among : List Hold → ℕ → Bool
is_among marks value = list_any (eq_by_cmp nat_cmp value) (map (λ m. m.value) marks)

abbrev pub held_among : List Hold → Entry → Entry
held_among marks entry =
    entry_held (is_some entry.term.expires && is_among marks entry.value) entry

-- the entry at a place, if there is one, is not held
abbrev pub IsUnheld : Place → World → Type 0
IsUnheld place w = (a : Registration) → get w.entries place ≡ Some a → a.term.held ≡ false

-- there is an entry at a place, which expires, and its mark is this
abbrev pub IsHeldSo : Bool → Place → World → Type 0
IsHeldSo held place w =
    (a : Registration) × (get w.entries place ≡ Some a) × (a.term.held ≡ held)
    × IsSome a.term.expires

-- ---- Minutes

-- a request with the minute that it names, if it names one
abbrev pub request_minuted : Parts → Request → Request
request_minuted p request = record request {
  ask = ask_with (get p.minutes (request.account, request.reference)) request.ask;
}

-- a row of the joined query as its expert sees it, with the minute that its request names
abbrev pub seen_minuted : Parts → QueuedRequest → QueueRow
seen_minuted p row =
    seen_row (record { request = request_minuted p row.request; advice = row.advice })

-- there is a request of a name, a renewal that names no minute
abbrev pub CanName : RequestName → World → Type 0
CanName name w =
    (case : Case) × (get w.requests name ≡ Some case) × (is_renewal case.ask ≡ true)
    × (minute_of case.ask ≡ None)
