-- The parts of an office in the order in which an audit is fed them, each with its rows by rowids,
-- but for the registries and their ranges.
use Rattle.std.specs.Prelude.{◌≡◌, true, Some, IsSome}
use Rattle.std.specs.FinMap.{empty, get}
use Rattle.std.specs.Ordering.{nat_cmp}
use Rattle.reg_maps.specs.Maps.{text_cmp}
use Rattle.reg_maps.specs.RowMaps.{held_in}
use Rattle.reg_blocks.specs.Block.{block_cmp}
use Rattle.reg_core.specs.World.{World, Place, RequestName, link_cmp, name_cmp, place_cmp, seat_cmp}
use Rattle.reg_core.specs.declared.entry.Registration.{Registration}
use Rattle.reg_core.specs.declared.request.Case.{Case}
use Rattle.reg_core.specs.Minutes.{is_renewal}
use Rattle.reg_statements.specs.Content.{cap_at, registration_at, case_at, seat_at, advice_at, prefix_at}
use Rattle.reg_statements.specs.Content.{hold_at, link_at, minute_at}
use Rattle.reg_statements.specs.Content.{content, holder_at}
use Rattle.reg_opening.specs.Acts.{AreActs}
use Rattle.reg_opening.specs.Feeding.{IsTiedTable, Untied}
use Rattle.reg_opening.specs.Partitions.{AreRegistries}
use Rattle.reg_statements.specs.Tables.{Tables}

-- ---- Capabilities, registries, entries and their marks

-- the entry at the place is there, and expires
abbrev pub ExpiresIn : Tables → Place → Type 0
ExpiresIn t place =
    (a : Registration) × (get (held_in {R = place_cmp} registration_at t.entries) place ≡ Some a)
    × IsSome a.term.expires

abbrev pub AreEntered : Tables → Type 0
AreEntered t =
    IsTiedTable place_cmp registration_at t.entries Untied
    × IsTiedTable place_cmp hold_at t.holds (ExpiresIn t)

-- what is so of the tables that are fed up to here, and the world that they make
abbrev pub AreAssigned : Tables → Type 0
AreAssigned t =
    IsTiedTable text_cmp cap_at t.caps Untied × (AreRegistries t × AreEntered t)

-- none is there, and none of what is judged by them
pub record NoneAssigned (w : World) : Type 0 where
  pub caps : w.caps ≡ empty
  pub registries : w.registries ≡ empty
  pub entries : w.entries ≡ empty
  pub requests : w.requests ≡ empty

-- what marks are of is there, and no mark
pub record AreUnmarked (t : Tables) (w : World) : Type 0 where
  pub entries : w.entries ≡ held_in registration_at t.entries
  pub requests : w.requests ≡ empty

-- ---- The pool, blocks, requests and their minutes

-- the request of the name is there, and for a renewal
abbrev pub RenewsIn : Tables → RequestName → Type 0
RenewsIn t name =
    (case : Case) × (get (held_in {R = name_cmp} case_at t.requests) name ≡ Some case)
    × (is_renewal case.ask ≡ true)

-- what is so of the tables that are fed up to here, and the world that they make
abbrev pub AreRequested : Tables → Type 0
AreRequested t =
    IsTiedTable name_cmp case_at t.requests Untied
    × IsTiedTable name_cmp minute_at t.minutes (RenewsIn t)

abbrev pub AreGiven : Tables → Type 0
AreGiven t =
    IsTiedTable nat_cmp prefix_at t.pool Untied
    × (IsTiedTable block_cmp holder_at t.blocks Untied × AreRequested t)

pub record NoneGiven (w : World) : Type 0 where
  pub pool : w.pool ≡ empty
  pub blocks : w.blocks ≡ empty
  pub requests : w.requests ≡ empty
  pub queue : w.queue ≡ empty

-- what minutes are of is there, and no minute
pub record AreUnminuted (t : Tables) (w : World) : Type 0 where
  pub requests : w.requests ≡ held_in case_at t.requests
  pub queue : w.queue ≡ empty

-- ---- Assignments, advice and agents

abbrev pub AreReviewed : Tables → Type 0
AreReviewed t =
    IsTiedTable seat_cmp seat_at t.queue Untied
    × (IsTiedTable seat_cmp advice_at t.advice Untied
    × IsTiedTable link_cmp link_at t.agents Untied)

pub record NoneReviewed (w : World) : Type 0 where
  pub queue : w.queue ≡ empty
  pub advice : w.advice ≡ empty
  pub agents : w.agents ≡ empty

-- ---- All

-- those that an audit is fed, and the journal
abbrev pub AreFed : Tables → Type 0
AreFed t = AreAssigned t × (AreGiven t × AreReviewed t)

abbrev pub AreParts : Tables → Type 0
AreParts t = AreFed t × AreActs t

-- whatever was there is replaced, but for the journal
abbrev pub with_fed : Tables → World → World
with_fed t w = record (content t) { journal = w.journal }

pub record IsBlankWorld (w : World) : Type 0 where
  pub assigned : NoneAssigned w
  pub given : NoneGiven w
  pub reviewed : NoneReviewed w
