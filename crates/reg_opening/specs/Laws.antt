-- The laws of the rows of an office.
use Rattle.std.specs.Prelude.{◌≡◌, ◌↔◌, ◌⊎◌, ℕ, true, List, Some, IsTrue}
use Rattle.std.specs.FinMap as map
use Rattle.std.specs.FinMap.{get, contains_key}
use Rattle.reg_blocks.specs.Block.{SizedPrefix}
use Rattle.reg_ranges.specs.Tables.{Table}
use Rattle.reg_core.specs.Entry.{with_hold}
use Rattle.reg_core.specs.Minutes.{with_minute}
use Rattle.reg_core.specs.WellKept.{WellKept}
use Rattle.reg_core.specs.World.{World, Link, Place, RequestName, Seat}
use Rattle.reg_core.specs.declared.advice.Advice.{Advice}
use Rattle.reg_core.specs.declared.capability.Cap.{Cap}
use Rattle.reg_core.specs.declared.entry.Registration.{Registration}
use Rattle.reg_core.specs.declared.holding.Holder.{Holder}
use Rattle.reg_core.specs.declared.request.Case.{Case}
use Rattle.reg_opening.specs.Rows.{with_row, has_row_form, lacks_minute, IsNew, IsInTurn, Fits}
use Rattle.reg_opening.specs.declared.row.Row.{Row}

-- with a row more that is new and in turn a world is well kept exactly where it was so without the
-- row, and the row fits it
abbrev pub RowsDecide : Type 0
RowsDecide =
    (w : World) (next : Row) → IsTrue (has_row_form next) → IsInTurn w next → IsNew w next
    → WellKept (with_row w next) ↔ (WellKept w × Fits w next)

-- the rows of a part are rows of the whole, where an entry may be held that is not in the part, and
-- a renewal may name a minute that it lacks in the part; and of each kind by which rows of the part
-- are judged the part has all rows
pub record IsPart (part whole : World) : Type 0 where
  pub caps : (digest : List ℕ) (cap : Cap) → get part.caps digest ≡ Some cap
      → get whole.caps digest ≡ Some cap
  pub registries : (name : List ℕ) (table : Table) → get part.registries name ≡ Some table
      → get whole.registries name ≡ Some table
  pub entries : (place : Place) (a : Registration) → get part.entries place ≡ Some a
      → (get whole.entries place ≡ Some a) ⊎ (get whole.entries place ≡ Some (with_hold true a))
  pub requests : (name : RequestName) (case : Case) → get part.requests name ≡ Some case
      → (get whole.requests name ≡ Some case)
      ⊎ ((minute : List ℕ) × IsTrue (lacks_minute case.ask)
      × (get whole.requests name ≡ Some (with_minute (Some minute) case)))
  pub queue : (seat : Seat) → IsTrue (contains_key part.queue seat)
      → IsTrue (contains_key whole.queue seat)
  pub advice : (seat : Seat) (advice : Advice) → get part.advice seat ≡ Some advice
      → get whole.advice seat ≡ Some advice
  pub pool : (prefix : ℕ) → IsTrue (contains_key part.pool prefix)
      → IsTrue (contains_key whole.pool prefix)
  pub blocks : (block : SizedPrefix) (h : Holder) → get part.blocks block ≡ Some h
      → get whole.blocks block ≡ Some h
  pub agents : (link : Link) → IsTrue (contains_key part.agents link)
      → IsTrue (contains_key whole.agents link)
  pub all_registries : (part.entries ≡ map.empty) ⊎ (part.registries ≡ whole.registries)
  pub all_prefixes : (part.blocks ≡ map.empty) ⊎ (part.pool ≡ whole.pool)
  pub all_given : (part.requests ≡ map.empty)
      ⊎ ((part.entries ≡ whole.entries) × (part.blocks ≡ whole.blocks))
  pub all_requests : (part.queue ≡ map.empty) ⊎ (part.requests ≡ whole.requests)
  pub all_seats : (part.advice ≡ map.empty) ⊎ (part.queue ≡ whole.queue)

-- rows that are read later mend nothing
abbrev pub PartsAreWellKept : Type 0
PartsAreWellKept = (part whole : World) → IsPart part whole → WellKept whole → WellKept part
