-- What an audit keeps of the rows that it was fed, and what it says of them.
use Rattle.std.specs.Prelude.{◌≡◌, ◌↔◌, ℕ, Bool, List, Option, IsTrue, Result, IfOk, OnOk, OnErr, is_some, option_map}
use Rattle.std.specs.BTreeMap as tree
use Rattle.std.specs.BTreeSet as set
use Rattle.std.specs.FinMap.{get, contains_key}
use Rattle.std.specs.Ordering.{nat_cmp}
use Rattle.reg_maps.specs.Maps.{text_cmp}
use Rattle.reg_blocks.specs.Block.{SizedPrefix, block_cmp}
use Rattle.reg_core.specs.WellKept.{WellKept}
use Rattle.reg_core.specs.World.{World, Link, Place, RequestName, Seat, link_cmp, name_cmp, place_cmp, seat_cmp}
use Rattle.reg_core.specs.declared.entry.Registration.{Registration}
use Rattle.reg_core.specs.declared.holding.Holder.{Holder}
use Rattle.reg_core.specs.declared.request.Case.{Case}
use Rattle.reg_vacancies.specs.Vacancies.{MayBeOf}
use Rattle.reg_opening.specs.Rows.{can_be_held, lacks_minute, with_row, IsNew, IsInTurn}
use Rattle.reg_opening.specs.declared.audit.Audit.{Audit}
use Rattle.reg_opening.specs.declared.requests.Standing.{Standing}
use Rattle.reg_opening.specs.declared.row.Row.{Row}

abbrev pub standing_of : Registration → Standing
standing_of a = record { assignee = a.assignee; can_be_held = can_be_held a.term }

abbrev pub account_of : Holder → List ℕ
account_of h = h.account

-- whether a minute may come to the request
abbrev pub awaits_minute : Case → Bool
awaits_minute case = lacks_minute case.ask

-- whether the expert gave an advice, of an expert to whom the request is assigned
abbrev pub advised_at : World → Seat → Option Bool
advised_at w seat = option_map (λ there. is_some (get w.advice seat)) (get w.queue seat)

-- the keys of the world's capabilities, its registries, its pool and its links, the assignees of its
-- entries and which of them can be held, the accounts that hold its blocks, which of its requests
-- await a minute and which of its seats were advised, and what is free in it, where that is known
pub record Keeps (audit : Audit) (w : World) : Type 0 where
  pub caps : (digest : List ℕ)
      → set.contains text_cmp audit.caps digest ≡ contains_key w.caps digest
  pub registries : (name : List ℕ)
      → tree.get text_cmp audit.registries name ≡ get w.registries name
  pub standings : (place : Place)
      → tree.get place_cmp audit.standings place ≡ option_map standing_of (get w.entries place)
  pub prefixes : (prefix : ℕ)
      → set.contains nat_cmp audit.prefixes prefix ≡ contains_key w.pool prefix
  pub holders : (block : SizedPrefix)
      → tree.get block_cmp audit.holders block ≡ option_map account_of (get w.blocks block)
  pub requests : (name : RequestName)
      → tree.get name_cmp audit.requests name ≡ option_map awaits_minute (get w.requests name)
  pub seats : (seat : Seat)
      → tree.get seat_cmp audit.seats seat ≡ advised_at w seat
  pub links : (link : Link)
      → set.contains link_cmp audit.links link ≡ contains_key w.agents link
  pub free : MayBeOf w audit.free

-- what the audit says of the rows that it was fed
abbrev pub is_well_kept : Audit → Bool
is_well_kept audit = audit.well_kept

-- whether the audit knows what is free
abbrev pub knows_free : Audit → Bool
knows_free audit = is_some audit.free

-- the audit was fed the rows of the world: it says whether this is well kept, and where it is, it
-- keeps what later rows are judged by
pub record Audits (audit : Audit) (w : World) : Type 0 where
  pub says : IsTrue (is_well_kept audit) ↔ WellKept w
  pub keeps : IsTrue (is_well_kept audit) → Keeps audit w

-- fed a row in its turn, the audit tells whether the row is new and the world with it well kept; if
-- the row is new, it was fed the rows of the world with it. What it tells it says from then on, and
-- where it said that the rows are not well kept it says so again. It knows what is free, if it did
-- before. At an error it was not fed the row
pub record Feeds {E : Type 0} (old new : Audit) (result : Result Bool E) (next : Row) : Type 0 where
  pub tells : (w : World) → Audits old w → IsInTurn w next
      → IfOk result (λ kept. IsTrue kept ↔ (IsNew w next × WellKept (with_row w next)))
  pub ok : (w : World) → Audits old w → IsInTurn w next → IsNew w next
      → OnOk result (Audits new (with_row w next))
  pub says : IfOk result (λ kept. kept ≡ is_well_kept new)
  pub stays : IsTrue (is_well_kept new) → IsTrue (is_well_kept old)
  pub free : OnOk result (knows_free new ≡ knows_free old)
  pub err : (w : World) → Audits old w → OnErr result (Audits new w)
