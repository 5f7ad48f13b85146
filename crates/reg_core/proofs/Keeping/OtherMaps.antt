-- A well kept world with one other map. What speaks of that map is shown of the other one; all else
-- is as it was.
use Rattle.std.proofs.Common.{◌≡◌, ℕ, Bool, true, List, refl, Some, IsSome}
use Rattle.std.specs.FinMap.{FinMap, get, insert, contains_key}
use Rattle.std.specs.FinSet.{FinSet}
use Rattle.std.specs.Ordering.{nat_cmp}
use Rattle.reg_blocks.specs.Block.{SizedPrefix, Clash, block_cmp, leading_24}
use Rattle.reg_blocks.specs.Pool.{is_pool_prefix}
use Rattle.reg_early.specs.Terms.{may_be_held}
use Rattle.reg_ranges.specs.Tables.{Table}
use Rattle.reg_core.specs.Advice.{has_advice_form}
use Rattle.reg_core.specs.Entry.{with_hold}
use Rattle.reg_core.specs.Link.{has_link_form}
use Rattle.reg_maps.specs.Maps.{text_cmp, update}
use Rattle.reg_core.specs.WellKept.{WellKept, has_grant_form, has_registry_form, has_entry_form, has_holding_form, has_request_form, has_seat_form, is_open_at, stands_in}
use Rattle.reg_core.specs.World.{World, RequestName, Place, Seat, Link, name_cmp, place_cmp, seat_cmp, link_cmp}
use Rattle.reg_core.specs.declared.advice.Advice.{Advice}
use Rattle.reg_core.specs.declared.capability.Cap.{Cap}
use Rattle.reg_core.specs.declared.entry.Registration.{Registration}
use Rattle.reg_core.specs.declared.holding.Holder.{Holder}
use Rattle.reg_core.specs.declared.journal.Act.{Act}
use Rattle.reg_core.specs.declared.request.Case.{Case}
use Rattle.reg_maps.proofs.KeySets.{each_key, still_in, still_at}
use Rattle.reg_core.proofs.KeyOrders.{name_keys, place_keys, block_keys, link_keys}
use Rattle.reg_maps.proofs.MapLaws.{insert_keeps, update_keeps}

-- what each request was given stands
abbrev pub AllStand : FinMap place_cmp Registration → FinMap block_cmp Holder → FinMap name_cmp Case
    → Type 0
AllStand entries blocks requests =
    (name : RequestName) (case : Case) → get requests name ≡ Some case
    → stands_in entries blocks name.0 case.ask case.state ≡ true

module _ (w : World) (kept : WellKept w) where
  pub with_caps : (caps : FinMap text_cmp Cap)
      → ((digest : List ℕ) (cap : Cap) → get caps digest ≡ Some cap
      → has_grant_form digest cap ≡ true)
      → WellKept (record w { caps = caps })
  with_caps caps forms = assumption

  pub with_registries : (registries : FinMap text_cmp Table)
      → ((name : List ℕ) (table : Table) → get registries name ≡ Some table
      → has_registry_form name table ≡ true)
      → ((place : Place) (a : Registration) → get w.entries place ≡ Some a
      → is_open_at (get registries place.0) place.1 ≡ true)
      → WellKept (record w { registries = registries })
  with_registries registries forms opened = assumption

  pub with_entries : (entries : FinMap place_cmp Registration)
      → ((place : Place) (a : Registration) → get entries place ≡ Some a
      → has_entry_form place a ≡ true)
      → ((place : Place) (a : Registration) → get entries place ≡ Some a
      → is_open_at (get w.registries place.0) place.1 ≡ true)
      → ((place : Place) (a : Registration) → get entries place ≡ Some a
      → may_be_held a.term ≡ true)
      → AllStand entries w.blocks w.requests → WellKept (record w { entries = entries })
  with_entries entries forms opened held stand = assumption

  pub with_requests : (requests : FinMap name_cmp Case)
      → ((name : RequestName) (case : Case) → get requests name ≡ Some case
      → has_request_form name case ≡ true)
      → AllStand w.entries w.blocks requests
      → ((seat : Seat) → contains_key w.queue seat ≡ true → IsSome (get requests seat.0))
      → WellKept (record w { requests = requests })
  with_requests requests forms stand queued = assumption

  pub with_queue : (queue : FinSet seat_cmp)
      → ((seat : Seat) → contains_key queue seat ≡ true → has_seat_form seat ≡ true)
      → ((seat : Seat) → contains_key queue seat ≡ true → IsSome (get w.requests seat.0))
      → ((seat : Seat) (advice : Advice) → get w.advice seat ≡ Some advice
      → contains_key queue seat ≡ true)
      → WellKept (record w { queue = queue })
  with_queue queue forms queued advised = assumption

  pub with_advice : (advice : FinMap seat_cmp Advice)
      → ((seat : Seat) (given : Advice) → get advice seat ≡ Some given
      → has_advice_form given ≡ true)
      → ((seat : Seat) (given : Advice) → get advice seat ≡ Some given
      → contains_key w.queue seat ≡ true)
      → WellKept (record w { advice = advice })
  with_advice advice forms advised = assumption

  pub with_pool : (pool : FinSet nat_cmp)
      → ((prefix : ℕ) → contains_key pool prefix ≡ true → is_pool_prefix prefix ≡ true)
      → ((block : SizedPrefix) (h : Holder) → get w.blocks block ≡ Some h
      → contains_key pool (leading_24 block) ≡ true)
      → WellKept (record w { pool = pool })
  with_pool pool forms in_pool = assumption

  pub with_blocks : (blocks : FinMap block_cmp Holder)
      → ((block : SizedPrefix) (h : Holder) → get blocks block ≡ Some h
      → has_holding_form block h ≡ true)
      → ((block : SizedPrefix) (h : Holder) → get blocks block ≡ Some h
      → contains_key w.pool (leading_24 block) ≡ true)
      → ((a b : SizedPrefix) → IsSome (get blocks a) → IsSome (get blocks b) → Clash a b → a ≡ b)
      → AllStand w.entries blocks w.requests → WellKept (record w { blocks = blocks })
  with_blocks blocks forms in_pool apart stand = assumption

  pub with_agents : (agents : FinSet link_cmp)
      → ((link : Link) → contains_key agents link ≡ true → has_link_form link ≡ true)
      → WellKept (record w { agents = agents })
  with_agents agents forms = assumption

  -- nothing is said of the journal
  pub with_journal : (journal : List Act) → WellKept (record w { journal = journal })
  with_journal journal = assumption

-- ---- One row more, or another in its place

module _ (w : World) (kept : WellKept w) where
  -- an entry more, or in the place of another, where what was given stands by it too
  pub with_entry : (place : Place) (a : Registration) → has_entry_form place a ≡ true
      → is_open_at (get w.registries place.0) place.1 ≡ true → may_be_held a.term ≡ true
      → AllStand (insert w.entries place a) w.blocks w.requests
      → WellKept (record w { entries = insert w.entries place a })
  with_entry place a form opened held =
      with_entries w kept (insert w.entries place a)
      (insert_keeps place_keys (λ place a. has_entry_form place a ≡ true) w.entries place a
      kept.entries form)
      (insert_keeps place_keys (λ place a. is_open_at (get w.registries place.0) place.1 ≡ true)
      w.entries place a kept.open_values opened)
      (insert_keeps place_keys (λ place a. may_be_held a.term ≡ true) w.entries place a kept.held
      held)

  -- an entry is marked as held, where it may be, or as held no more
  pub with_hold_set : (place : Place) (held : Bool)
      → ((a : Registration) → get w.entries place ≡ Some a
      → may_be_held (with_hold held a).term ≡ true)
      → AllStand (update w.entries place (with_hold held)) w.blocks w.requests
      → WellKept (record w { entries = update w.entries place (with_hold held) })
  with_hold_set place held may =
      with_entries w kept (update w.entries place (with_hold held))
      (update_keeps place_keys (λ place a. has_entry_form place a ≡ true) w.entries place
      (with_hold held) kept.entries (kept.entries place))
      (update_keeps place_keys (λ place a. is_open_at (get w.registries place.0) place.1 ≡ true)
      w.entries place (with_hold held) kept.open_values (kept.open_values place))
      (update_keeps place_keys (λ place a. may_be_held a.term ≡ true) w.entries place
      (with_hold held) kept.held may)

  -- a request more
  pub with_request : (name : RequestName) (case : Case) → has_request_form name case ≡ true
      → stands_in w.entries w.blocks name.0 case.ask case.state ≡ true
      → WellKept (record w { requests = insert w.requests name case })
  with_request name case form stands =
      with_requests w kept (insert w.requests name case)
      (insert_keeps name_keys (λ name case. has_request_form name case ≡ true) w.requests name
      case kept.requests form)
      (insert_keeps name_keys
      (λ name case. stands_in w.entries w.blocks name.0 case.ask case.state ≡ true) w.requests name
      case kept.given stands)
      (λ seat there. still_in name_keys w.requests name case seat.0 (kept.queued seat there))

  -- a request is changed
  pub with_change : (name : RequestName) (f : Case → Case)
      → ((case : Case) → get w.requests name ≡ Some case → has_request_form name (f case) ≡ true)
      → ((case : Case) → get w.requests name ≡ Some case
      → stands_in w.entries w.blocks name.0 (f case).ask (f case).state ≡ true)
      → WellKept (record w { requests = update w.requests name f })
  with_change name f forms stand =
      with_requests w kept (update w.requests name f)
      (update_keeps name_keys (λ name case. has_request_form name case ≡ true) w.requests name f
      kept.requests forms)
      (update_keeps name_keys
      (λ name case. stands_in w.entries w.blocks name.0 case.ask case.state ≡ true) w.requests name f
      kept.given stand)
      (λ seat there. still_at name_keys w.requests name f seat.0 (kept.queued seat there))

  -- a block more, which shares no address with another
  pub with_block : (block : SizedPrefix) (h : Holder) → has_holding_form block h ≡ true
      → contains_key w.pool (leading_24 block) ≡ true
      → ((other : SizedPrefix) → IsSome (get w.blocks other) → ¬ Clash block other)
      → AllStand w.entries (insert w.blocks block h) w.requests
      → WellKept (record w { blocks = insert w.blocks block h })
  with_block block h form pooled alone =
      let after = insert w.blocks block h in
      with_blocks w kept after
      (insert_keeps block_keys (λ block h. has_holding_form block h ≡ true) w.blocks block h
      kept.blocks form)
      (insert_keeps block_keys (λ block h. contains_key w.pool (leading_24 block) ≡ true) w.blocks
      block h kept.in_pool pooled)
      (λ a b in_a in_b.
      each_key block_keys w.blocks block
      (λ a. (b : SizedPrefix) → IsSome (get after b) → Clash a b → a ≡ b) h
      (λ a there. each_key block_keys w.blocks block (λ b. Clash a b → a ≡ b) h
      (λ b then. kept.apart a b there then)
      (λ clash. absurd (alone a there (clash.0, clash.2, clash.1))))
      (each_key block_keys w.blocks block (λ b. Clash block b → block ≡ b) h
      (λ b there clash. absurd (alone b there clash)) (λ clash. refl))
      a in_a b in_b)

  -- a link more
  pub with_link : (link : Link) → has_link_form link ≡ true
      → WellKept (record w { agents = insert w.agents link tt })
  with_link link form =
      with_agents w kept (insert w.agents link tt)
      (each_key link_keys w.agents link (λ link. has_link_form link ≡ true) tt kept.agents form)
