-- What the tables of an office hold.
use Rattle.std.specs.Prelude.{◌≡◌, ℕ, ℤ, true, false, List, [], ◌∷◌, length, map, reverse, Option, Some, IsSome, option_map}
use Rattle.std.specs.FinMap.{FinMap, contains_key, entries, get, keys, values}
use Rattle.std.specs.List.{range_with_len}
use Rattle.std.specs.Ordering.{nat_cmp}
use Rattle.sqlite.specs.Effect.{Database}
use Rattle.sqlite.specs.Order.{Row}
use Rattle.sqlite.specs.State.{State}
use Rattle.reg_maps.specs.Maps.{only_if, same_text, select, text_cmp}
use Rattle.reg_maps.specs.RowMaps.{IsTable, held_in}
use Rattle.reg_blocks.specs.Block.{SizedPrefix, block_cmp}
use Rattle.reg_ranges.specs.Tables.{Table}
use Rattle.reg_ranges.specs.declared.range.Range.{Range}
use Rattle.reg_core.specs.Entry.{registration_in, with_hold}
use Rattle.reg_core.specs.Holding.{holder_in}
use Rattle.reg_core.specs.Request.{case_of}
use Rattle.reg_core.specs.World.{World, Link, Place, RequestName, Seat, link_cmp, name_cmp, place_cmp, seat_cmp}
use Rattle.reg_core.specs.declared.advice.Advice.{Advice}
use Rattle.reg_core.specs.declared.capability.Cap.{Cap}
use Rattle.reg_core.specs.declared.entry.Registration.{Registration}
use Rattle.reg_core.specs.declared.holding.Holder.{Holder}
use Rattle.reg_core.specs.declared.journal.Act.{Act}
use Rattle.reg_core.specs.declared.request.Case.{Case}
use Rattle.reg_records.specs.Acts.{act_in}
use Rattle.reg_records.specs.Advice.{advice_in}
use Rattle.reg_records.specs.Links.{link_in}
use Rattle.reg_records.specs.Blocks.{holding_in}
use Rattle.reg_records.specs.Caps.{grant_in}
use Rattle.reg_records.specs.Entries.{entry_in}
use Rattle.reg_records.specs.Holds.{hold_in}
use Rattle.reg_records.specs.Minutes.{minute_in}
use Rattle.reg_records.specs.Office.{version_in}
use Rattle.reg_records.specs.Pool.{prefix_in}
use Rattle.reg_records.specs.Queue.{seat_in}
use Rattle.reg_records.specs.Ranges.{range_in}
use Rattle.reg_records.specs.Registries.{registry_in}
use Rattle.reg_core.specs.Minutes.{is_bare, is_renewal, with_minute}
use Rattle.reg_records.specs.Requests.Reading.{request_in}
use Rattle.reg_tables.specs.Editing.{IsOfficeOf}
use Rattle.reg_tables.specs.Selecting.{stored}
use Rattle.reg_tables.specs.Version.{newest, number_of, rows_of}
use Rattle.reg_tables.specs.declared.version.Version.{Version}
use Rattle.reg_statements.specs.Parts.{Parts}
use Rattle.reg_statements.specs.Tables.{Tables, tables_in}

-- ---- What a row holds, by its key

unfoldable pub cap_at : Row → Option (List ℕ × Cap)
cap_at row = option_map (λ g. (g.digest, g.cap)) (grant_in (stored 4 row))

-- a registry's largest value
unfoldable pub max_at : Row → Option (List ℕ × ℕ)
max_at row = option_map (λ r. (r.name, r.max)) (registry_in (stored 2 row))

unfoldable pub range_at : Row → Option (Place × Range)
range_at row = option_map (λ r. ((r.registry, r.range.lo), r.range)) (range_in (stored 5 row))

-- an entry, without its mark
unfoldable pub registration_at : Row → Option (Place × Registration)
registration_at row =
    option_map (λ e. ((e.registry, e.value), registration_in e)) (entry_in (stored 7 row))

-- a request, without its minute
unfoldable pub case_at : Row → Option (RequestName × Case)
case_at row = option_map (λ r. ((r.account, r.reference), case_of r)) (request_in (stored 25 row))

unfoldable pub seat_at : Row → Option (Seat × Unit {0})
seat_at row =
    option_map (λ s. (((s.account, s.reference), s.expert), tt)) (seat_in (stored 3 row))

unfoldable pub advice_at : Row → Option (Seat × Advice)
advice_at row =
    option_map (λ a. (((a.seat.account, a.seat.reference), a.seat.expert), a.advice)) (advice_in (stored 5 row))

unfoldable pub prefix_at : Row → Option (ℕ × Unit {0})
prefix_at row = option_map (λ prefix. (prefix, tt)) (prefix_in (stored 1 row))

unfoldable pub holder_at : Row → Option (SizedPrefix × Holder)
holder_at row = option_map (λ h. (h.block, holder_in h)) (holding_in (stored 6 row))

unfoldable pub hold_at : Row → Option (Place × Unit {0})
hold_at row = option_map (λ h. ((h.registry, h.value), tt)) (hold_in (stored 2 row))

unfoldable pub minute_at : Row → Option (RequestName × List ℕ)
minute_at row =
    option_map (λ m. ((m.account, m.reference), m.minute)) (minute_in (stored 3 row))

-- a principal, and an agent of it
unfoldable pub link_at : Row → Option (Link × Unit {0})
link_at row = option_map (λ l. ((l.principal, l.agent), tt)) (link_in (stored 2 row))

unfoldable pub act_at : Row → Option (ℕ × Act)
act_at row = option_map (λ a. (a.number, a.act)) (act_in (stored 13 row))

-- ---- What the tables hold

abbrev pub maxes_in : Tables → FinMap text_cmp ℕ
maxes_in t = held_in max_at t.registries

abbrev pub ranges_in : Tables → FinMap place_cmp Range
ranges_in t = held_in range_at t.ranges

-- the ranges of a registry, by their first values
abbrev pub ranges_of : List ℕ → FinMap place_cmp Range → FinMap place_cmp Range
ranges_of name m = select (λ place range. only_if (same_text place.0 name) range) m

abbrev pub registry_table : FinMap place_cmp Range → List ℕ → ℕ → Table
registry_table m name max =
    record { max = max; ranges = map (λ e. e.1) (entries (ranges_of name m)) }

-- each registry with its ranges
abbrev pub registries_in : FinMap text_cmp ℕ → FinMap place_cmp Range → FinMap text_cmp Table
registries_in largest m = select (λ name max. Some (registry_table m name max)) largest

-- each entry with its mark
abbrev pub marked : FinMap place_cmp (Unit {0}) → FinMap place_cmp Registration
    → FinMap place_cmp Registration
marked holds m = select (λ place a. Some (with_hold (contains_key holds place) a)) m

-- each renewal with the minute that it names
abbrev pub minuted : FinMap name_cmp (List ℕ) → FinMap name_cmp Case → FinMap name_cmp Case
minuted minutes m = select (λ name case. Some (with_minute (get minutes name) case)) m

-- no entry has a mark, and no request a minute
abbrev pub AreUnheld : FinMap place_cmp Registration → Type 0
AreUnheld m = (place : Place) (a : Registration) → get m place ≡ Some a → a.term.held ≡ false

abbrev pub AreBare : FinMap name_cmp Case → Type 0
AreBare m = (name : RequestName) (case : Case) → get m name ≡ Some case → is_bare case.ask ≡ true

-- acts by their numbers, from the greatest on
abbrev pub latest_first : FinMap nat_cmp Act → List Act
latest_first acts = reverse (values acts)

-- their numbers are 1, 2, 3 ..
abbrev pub AreCounted : FinMap nat_cmp Act → Type 0
AreCounted acts = keys acts ≡ range_with_len 1 (length (entries acts))

abbrev pub parts_in : Tables → Parts
parts_in t = record {
  caps = held_in cap_at t.caps;
  maxes = maxes_in t;
  ranges = ranges_in t;
  entries = held_in registration_at t.entries;
  requests = held_in case_at t.requests;
  queue = held_in seat_at t.queue;
  advice = held_in advice_at t.advice;
  pool = held_in prefix_at t.pool;
  blocks = held_in holder_at t.blocks;
  holds = held_in hold_at t.holds;
  minutes = held_in minute_at t.minutes;
  agents = held_in link_at t.agents;
  journal = held_in act_at t.journal;
}

-- the world that the parts make
abbrev pub assembled : Parts → World
assembled p = record {
  caps = p.caps;
  registries = registries_in p.maxes p.ranges;
  entries = marked p.holds p.entries;
  requests = minuted p.minutes p.requests;
  queue = p.queue;
  advice = p.advice;
  pool = p.pool;
  blocks = p.blocks;
  agents = p.agents;
  journal = latest_first p.journal;
}

abbrev pub content : Tables → World
content t = assembled (parts_in t)

-- the table has one row, of this version
abbrev pub HasVersionRow : ℤ → List Row → Type 0
HasVersionRow version rows =
    (row : Row) × (rows ≡ row ∷ []) × (version_in (stored 1 row) ≡ Some version)

-- the version is this one, each row reads back, and no two rows of a table have one key
abbrev pub AreWhole : Version → Tables → Type 0
AreWhole v t =
    HasVersionRow (number_of v) t.office × (IsTable text_cmp cap_at t.caps × (IsTable text_cmp max_at t.registries
    × (IsTable place_cmp range_at t.ranges × (IsTable place_cmp registration_at t.entries
    × (IsTable name_cmp case_at t.requests × (IsTable seat_cmp seat_at t.queue
    × (IsTable seat_cmp advice_at t.advice × (IsTable nat_cmp prefix_at t.pool
    × (IsTable block_cmp holder_at t.blocks × (IsTable place_cmp hold_at t.holds
    × (IsTable name_cmp minute_at t.minutes × (IsTable link_cmp link_at t.agents
    × IsTable nat_cmp act_at t.journal))))))))))))

-- a range is a registry's that is there, a mark an entry's that expires, and a minute a renewal's;
-- and the numbers of acts are 1, 2, 3 ..
pub record AreTiedBy (largest : FinMap text_cmp ℕ) (spans : FinMap place_cmp Range)
    (marks : FinMap place_cmp (Unit {0})) (registered : FinMap place_cmp Registration)
    (texts : FinMap name_cmp (List ℕ)) (cases : FinMap name_cmp Case)
    (numbered : FinMap nat_cmp Act) : Type 0 where
  pub ranges : (place : Place) → IsSome (get spans place) → IsSome (get largest place.0)
  pub holds : (place : Place) → contains_key marks place ≡ true
      → (a : Registration) × (get registered place ≡ Some a) × IsSome a.term.expires
  pub minutes : (name : RequestName) → IsSome (get texts name)
      → (case : Case) × (get cases name ≡ Some case) × (is_renewal case.ask ≡ true)
  pub acts : AreCounted numbered

abbrev pub AreTied : Parts → Type 0
AreTied p = AreTiedBy p.maxes p.ranges p.holds p.entries p.minutes p.requests p.journal

pub record AreKept (v : Version) (t : Tables) : Type 0 where
  pub whole : AreWhole v t
  pub tied : AreTied (parts_in t)

-- the tables are those of a version, and their rows an office's; the tables that it lacks have none
pub record IsStoredAs (v : Version) (db : Database) : Type 0 where
  pub office : IsOfficeOf v db
  pub kept : AreKept v (tables_in (rows_of v db.trees))

abbrev pub IsStored : Database → Type 0
IsStored = IsStoredAs newest

-- what the tables of a version hold
abbrev pub content_at : Version → Database → World
content_at v db = content (tables_in (rows_of v db.trees))

abbrev pub parts_of : Database → Parts
parts_of db = parts_in (tables_in db.trees)

-- that a database of the newest version holds
abbrev pub content_of : Database → World
content_of db = content (tables_in db.trees)

abbrev pub world_in : State → World
world_in s = content_of s.now
