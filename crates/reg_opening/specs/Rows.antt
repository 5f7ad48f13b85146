-- The rows of an office one by one: the world with a row more, and whether the row fits it.
use Rattle.std.specs.Prelude.{◌≡◌, ℕ, Bool, true, false, ◌&&◌, ◌^◌, nat_lt, not, List, Option, Some, None, IsSome, IsTrue, is_some}
use Rattle.std.specs.FinMap as map
use Rattle.std.specs.FinMap.{FinMap, get, contains_key, insert}
use Rattle.reg_maps.specs.Maps.{same_text, update}
use Rattle.reg_blocks.specs.Block.{SizedPrefix, Clash, block_cmp, leading_24}
use Rattle.reg_blocks.specs.Pool.{is_pool_prefix}
use Rattle.reg_core.specs.Advice.{has_advice_form}
use Rattle.reg_core.specs.Entry.{registration_in, with_hold}
use Rattle.reg_core.specs.Holding.{holder_in}
use Rattle.reg_core.specs.MayBeGiven.{place_of}
use Rattle.reg_core.specs.Minutes.{is_bare, is_renewal, with_minute}
use Rattle.reg_core.specs.Names.{is_name}
use Rattle.reg_core.specs.Request.{case_of}
use Rattle.reg_core.specs.WellKept.{has_grant_form, has_registry_form, has_entry_form, has_holding_form, has_request_form, is_open_at, stands_in}
use Rattle.reg_core.specs.World.{World, RequestName, Seat}
use Rattle.reg_core.specs.declared.ask.Ask.{Ask}
use Rattle.reg_core.specs.declared.entry.Registration.{Registration}
use Rattle.reg_core.specs.declared.holding.Holder.{Holder}
use Rattle.reg_core.specs.declared.request.Case.{Case}
use Rattle.reg_core.specs.declared.request.Request.{Request}
use Rattle.reg_ranges.specs.Texts.{is_text}
use Rattle.reg_early.specs.Terms.{may_be_held}
use Rattle.reg_early.specs.declared.term.Term.{Term}
use Rattle.reg_opening.specs.declared.row.Row.{Row}
use Rattle.reg_opening.specs.declared.row.Row.TheVariants as row

abbrev pub name_of : Request → RequestName
name_of request = (request.account, request.reference)

abbrev pub seat_of : List ℕ → List ℕ → List ℕ → Seat
seat_of account reference expert = ((account, reference), expert)

-- ---- What comes to entries and requests that are there

-- the term expires, and is not held yet
abbrev pub can_be_held : Term → Bool
can_be_held term = not term.held && is_some term.expires

abbrev pub is_markable : Option Registration → Bool
is_markable None = false
is_markable (Some a) = can_be_held a.term

-- the ask is for a renewal, and names no minute yet
abbrev pub lacks_minute : Ask → Bool
lacks_minute ask = is_renewal ask && is_bare ask

abbrev pub is_unminuted : Option Case → Bool
is_unminuted None = false
is_unminuted (Some case) = lacks_minute case.ask

-- ---- Rows

-- the world with the row
abbrev pub with_row : World → Row → World
with_row w (row.Cap digest cap) = record w { caps = insert w.caps digest cap }
with_row w (row.Registry name table) = record w { registries = insert w.registries name table }
with_row w (row.Entry entry) =
    record w { entries = insert w.entries (place_of entry) (registration_in entry) }
with_row w (row.Hold registry value) =
    record w { entries = update w.entries (registry, value) (with_hold true) }
with_row w (row.Prefix prefix) = record w { pool = insert w.pool prefix tt }
with_row w (row.Block holding) =
    record w { blocks = insert w.blocks holding.block (holder_in holding) }
with_row w (row.Request request) =
    record w { requests = insert w.requests (name_of request) (case_of request) }
with_row w (row.Minute account reference minute) =
    record w { requests = update w.requests (account, reference) (with_minute (Some minute)) }
with_row w (row.Seat account reference expert) =
    record w { queue = insert w.queue (seat_of account reference expert) tt }
with_row w (row.Advice account reference expert advice) =
    record w { advice = insert w.advice (seat_of account reference expert) advice }
with_row w (row.Link principal agent) =
    record w { agents = insert w.agents (principal, agent) tt }

-- no row of the world has the key of this one; a mark is the first of an entry that expires, and a
-- minute the first of a renewal
abbrev pub IsNew : World → Row → Type 0
IsNew w (row.Cap digest cap) = get w.caps digest ≡ None
IsNew w (row.Registry name table) = get w.registries name ≡ None
IsNew w (row.Entry entry) = get w.entries (place_of entry) ≡ None
IsNew w (row.Hold registry value) = IsTrue (is_markable (get w.entries (registry, value)))
IsNew w (row.Prefix prefix) = contains_key w.pool prefix ≡ false
IsNew w (row.Block holding) = get w.blocks holding.block ≡ None
IsNew w (row.Request request) = get w.requests (name_of request) ≡ None
IsNew w (row.Minute account reference minute) =
    IsTrue (is_unminuted (get w.requests (account, reference)))
IsNew w (row.Seat account reference expert) =
    contains_key w.queue (seat_of account reference expert) ≡ false
IsNew w (row.Advice account reference expert advice) =
    get w.advice (seat_of account reference expert) ≡ None
IsNew w (row.Link principal agent) = contains_key w.agents (principal, agent) ≡ false

-- there is no row yet that is judged by rows of this one's kind
abbrev pub IsInTurn : World → Row → Type 0
IsInTurn w (row.Cap digest cap) = Unit {0}
IsInTurn w (row.Registry name table) = w.entries ≡ map.empty
IsInTurn w (row.Entry entry) = w.requests ≡ map.empty
IsInTurn w (row.Hold registry value) = w.requests ≡ map.empty
IsInTurn w (row.Prefix prefix) = w.blocks ≡ map.empty
IsInTurn w (row.Block holding) = w.requests ≡ map.empty
IsInTurn w (row.Request request) = w.queue ≡ map.empty
IsInTurn w (row.Minute account reference minute) = w.queue ≡ map.empty
IsInTurn w (row.Seat account reference expert) = w.advice ≡ map.empty
IsInTurn w (row.Advice account reference expert advice) = Unit {0}
IsInTurn w (row.Link principal agent) = Unit {0}

-- every text and number of the row has its form
abbrev pub has_row_form : Row → Bool
has_row_form (row.Cap digest cap) = has_grant_form digest cap
has_row_form (row.Registry name table) = has_registry_form name table
has_row_form (row.Entry entry) = has_entry_form (place_of entry) (registration_in entry)
has_row_form (row.Hold registry value) = is_name registry && nat_lt value (2 ^ 32)
has_row_form (row.Prefix prefix) = nat_lt prefix (2 ^ 32)
has_row_form (row.Block holding) = has_holding_form holding.block (holder_in holding)
has_row_form (row.Request request) = has_request_form (name_of request) (case_of request)
has_row_form (row.Minute account reference minute) =
    is_name account && is_name reference && is_text minute
has_row_form (row.Seat account reference expert) =
    is_name account && is_name reference && is_name expert
has_row_form (row.Advice account reference expert advice) =
    is_name account && is_name reference && is_name expert && has_advice_form advice
has_row_form (row.Link principal agent) = is_name principal && is_name agent

-- the block shares no address with a given one
abbrev pub IsApart : FinMap block_cmp Holder → SizedPrefix → Type 0
IsApart blocks block = (other : SizedPrefix) → IsSome (get blocks other) → ¬ Clash block other

-- an entry has a value that is assigned one by one, and is held only where it expires; a prefix may be in a pool, a block lies in the
-- pool apart from the others, a request stands by the entries and the blocks, an assignment is of a
-- request that is there, to another than its applicant, and advice is by an expert of the request
abbrev pub Fits : World → Row → Type 0
Fits w (row.Cap digest cap) = Unit {0}
Fits w (row.Registry name table) = Unit {0}
Fits w (row.Entry entry) =
    IsTrue (is_open_at (get w.registries entry.registry) entry.value)
    × IsTrue (may_be_held entry.term)
Fits w (row.Hold registry value) = Unit {0}
Fits w (row.Prefix prefix) = IsTrue (is_pool_prefix prefix)
Fits w (row.Block holding) =
    IsTrue (contains_key w.pool (leading_24 holding.block)) × IsApart w.blocks holding.block
Fits w (row.Request request) =
    IsTrue (stands_in w.entries w.blocks request.account request.ask request.state)
Fits w (row.Minute account reference minute) = Unit {0}
Fits w (row.Seat account reference expert) =
    IsTrue (not (same_text expert account)) × IsSome (get w.requests (account, reference))
Fits w (row.Advice account reference expert advice) =
    IsTrue (contains_key w.queue (seat_of account reference expert))
Fits w (row.Link principal agent) = IsTrue (not (same_text agent principal))

-- where the row is a prefix, it may be in a pool
abbrev pub MayBePooled : Row → Type 0
MayBePooled (row.Prefix prefix) = IsTrue (is_pool_prefix prefix)
MayBePooled _ = Unit {0}
