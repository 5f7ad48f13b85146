-- Changes that fit a well kept world.
use Rattle.std.proofs.Common.{◌≡◌, ℕ, Bool, true, false, cond, ◌&&◌, List, [], ◌∷◌, refl, sym, ap, subst, ◌∙◌}
use Rattle.std.specs.Prelude.{Option, Some, None, IsSome, is_some, not}
use Rattle.std.specs.Cmp.{first_so, second_so}
use Rattle.std.specs.Cmp.Derive.{both_true}
use Rattle.std.specs.FinMap.{FinMap, get, insert, remove, contains_key}
use Rattle.std.specs.Ordering.{eq_by_cmp}
use Rattle.reg_maps.specs.Maps.{text_cmp, same_text, update}
use Rattle.reg_maps.proofs.KeySets.{each_key, still_in, insert_passes, update_passes, was_left}
use Rattle.reg_maps.proofs.MapLaws.{number_keys, text_keys, tied, get-at_insert, get-inserted, insert_keeps, remove_keeps}
use Rattle.reg_blocks.specs.Block.{SizedPrefix, block_cmp, leading_24}
use Rattle.reg_blocks.specs.Pool.{is_pool_prefix}
use Rattle.reg_ranges.specs.Tables.{Table}
use Rattle.reg_core.specs.Advice.{has_advice_form}
use Rattle.reg_core.specs.Ask.{has_ask_form, registry_of}
use Rattle.reg_core.specs.Entry.{registration_in, with_hold, has_day_form}
use Rattle.reg_core.specs.Link.{has_link_form}
use Rattle.reg_core.specs.MayBeGiven.{IsDuly, place_of}
use Rattle.reg_core.specs.Names.{is_name}
use Rattle.reg_core.specs.Request.{has_state_form}
use Rattle.reg_core.specs.WellKept.{WellKept, CanApply, has_grant_form, has_registry_form, has_request_form, has_seat_form, is_open_at, is_registered_to, is_registered_at, is_size_asked, is_held_by, stands_in}
use Rattle.reg_core.specs.World.{World, RequestName, Place, Link, place_cmp, in_state, pending, with_state, without}
use Rattle.reg_core.specs.declared.advice.Advice.{Advice}
use Rattle.reg_core.specs.declared.ask.Ask.{Ask}
use Rattle.reg_core.specs.declared.capability.Cap.{Cap}
use Rattle.reg_core.specs.declared.change.Change.TheVariants.{Grant, Revoke, RevokeAll, Define, AddPool, Submit, Close, Assign, Advise, GiveValue, SetHold, SetAgent}
use Rattle.reg_core.specs.declared.entry.Entry.{Entry}
use Rattle.reg_core.specs.declared.entry.Registration.{Registration}
use Rattle.reg_core.specs.declared.request.Case.{Case}
use Rattle.reg_core.specs.declared.holding.Holder.{Holder}
use Rattle.reg_core.specs.declared.request.Given.TheVariants as given
use Rattle.reg_core.specs.declared.request.State.{State}
use Rattle.reg_core.specs.declared.request.State.TheVariants.{Pending, Approved, Declined, Withdrawn}
use Rattle.reg_core.proofs.Keeping.Entries.{duly_fits, value_form, entry_form, entry_open, entry_own}
use Rattle.reg_core.proofs.Keeping.OtherMaps.{AllStand, with_caps, with_registries, with_queue, with_advice, with_pool, with_agents, with_entry, with_hold_set, with_request, with_change, with_link}
use Rattle.reg_core.proofs.Terms.{held_form}
use Rattle.reg_core.proofs.KeyOrders.{place_keys, seat_keys, link_keys}

-- ---- Capabilities and registries

pub can_grant : (w : World) (digest : List ℕ) (cap : Cap) → WellKept w
    → has_grant_form digest cap ≡ true → get w.caps digest ≡ None → CanApply w (Grant digest cap)
can_grant w digest cap kept form free = (
  free,
  with_caps w kept (insert w.caps digest cap)
      (insert_keeps text_keys (λ digest cap. has_grant_form digest cap ≡ true) w.caps digest cap
      kept.caps form),
)

pub can_revoke : (w : World) (digest : List ℕ) → WellKept w → CanApply w (Revoke digest)
can_revoke w digest kept = (
  tt,
  with_caps w kept (remove w.caps digest)
      (remove_keeps text_keys (λ digest cap. has_grant_form digest cap ≡ true) w.caps digest
      kept.caps),
)

without_keeps : (digests : List (List ℕ)) (caps : FinMap text_cmp Cap)
    → ((digest : List ℕ) (cap : Cap) → get caps digest ≡ Some cap → has_grant_form digest cap ≡ true)
    → (digest : List ℕ) (cap : Cap) → get (without digests caps) digest ≡ Some cap
    → has_grant_form digest cap ≡ true
without_keeps [] caps kept = kept
without_keeps (digest ∷ digests) caps kept =
    without_keeps digests (remove caps digest)
    (remove_keeps text_keys (λ digest cap. has_grant_form digest cap ≡ true) caps digest kept)

pub can_revoke_all : (w : World) (digests : List (List ℕ)) → WellKept w
    → CanApply w (RevokeAll digests)
can_revoke_all w digests kept = (
  tt,
  with_caps w kept (without digests w.caps) (without_keeps digests w.caps kept.caps),
)

pub can_define : (w : World) (name : List ℕ) (table : Table) → WellKept w
    → has_registry_form name table ≡ true → get w.registries name ≡ None
    → CanApply w (Define name table)
can_define w name table kept form free = (
  free,
  with_registries w kept (insert w.registries name table)
      (insert_keeps text_keys (λ name table. has_registry_form name table ≡ true) w.registries
      name table kept.registries form)
      (λ place a is_there. opened place a is_there (eq_by_cmp text_cmp place.0 name) refl),
)
  where
    -- each entry's registry is there, and so not the one that is new
    opened : (place : Place) (a : Registration) → get w.entries place ≡ Some a → (b : Bool)
        → eq_by_cmp text_cmp place.0 name ≡ b
        → is_open_at (get (insert w.registries name table) place.0) place.1 ≡ true
    opened place a is_there true t =
        let none : get w.registries place.0 ≡ None =
        ap (get w.registries) (tied text_keys place.0 name t) ∙ free in
        let shut : is_open_at (get w.registries place.0) place.1 ≡ false =
        ap (λ o. is_open_at o place.1) none in
        let is_open = kept.open_values place a is_there in
        absurd (cc)
    opened place a is_there false t =
        ap (λ o. is_open_at o place.1)
        (get-at_insert text_keys w.registries name table place.0
        ∙ ap (λ b. cond b (Some table) (get w.registries place.0)) t)
        ∙ kept.open_values place a is_there

-- ---- The pool

pub can_add_pool : (w : World) (prefix : ℕ) → WellKept w → is_pool_prefix prefix ≡ true
    → contains_key w.pool prefix ≡ false → CanApply w (AddPool prefix)
can_add_pool w prefix kept form free = (
  free,
  with_pool w kept (insert w.pool prefix tt)
      (each_key number_keys w.pool prefix (λ prefix. is_pool_prefix prefix ≡ true) tt kept.pool
      form)
      (λ block h is.
      still_in number_keys w.pool prefix tt (leading_24 block) (kept.in_pool block h is)),
)

-- ---- Requests

pub can_submit : (w : World) (name : RequestName) (ask : Ask) → WellKept w
    → has_request_form name (pending ask) ≡ true → get w.requests name ≡ None
    → CanApply w (Submit name.0 name.1 ask)
can_submit w name ask kept form free = (free, with_request w kept name (pending ask) form refl)

module _ (w : World) (kept : WellKept w) (name : RequestName) where
  -- a request that is there has the forms of an applicant's name and of what it asks for
  pub forms_of : (case : Case) (ask : Ask) → get w.requests name ≡ Some case → case.ask ≡ ask
      → (is_name name.0 ≡ true) × (has_ask_form ask ≡ true)
  forms_of case ask is_there asks =
      let parts = first_so (is_name name.0 && is_name name.1 && has_ask_form case.ask)
      (has_state_form case.state) (kept.requests name case is_there) in (
        first_so (is_name name.0) (is_name name.1)
            (first_so (is_name name.0 && is_name name.1) (has_ask_form case.ask) parts),
        subst (λ x. has_ask_form x ≡ true) asks
            (second_so (is_name name.0 && is_name name.1) (has_ask_form case.ask) parts),
      )

  -- a request comes to a state in which it stands
  pub with_its_state : (state : State) → has_state_form state ≡ true
      → ((old : Case) → get w.requests name ≡ Some old
      → stands_in w.entries w.blocks name.0 old.ask state ≡ true)
      → WellKept (with_state w name state)
  with_its_state state form stands =
      with_change w kept name (in_state state)
      (λ old is.
      both_true (first_so (is_name name.0 && is_name name.1 && has_ask_form old.ask)
      (has_state_form old.state) (kept.requests name old is)) form) stands

-- a request is closed in a state in which it was given nothing
abbrev pub GivesNothing : State → Type 0
GivesNothing Pending = ⊥
GivesNothing (Approved given) = ⊥
GivesNothing (Declined reason) = Unit {0}
GivesNothing Withdrawn = Unit {0}

nothing_stands : (entries : FinMap place_cmp Registration) (blocks : FinMap block_cmp Holder)
    (account : List ℕ) (ask : Ask) (state : State)
    → GivesNothing state → stands_in entries blocks account ask state ≡ true
nothing_stands entries blocks account ask Pending h = absurd h
nothing_stands entries blocks account ask (Approved given) h = absurd h
nothing_stands entries blocks account ask (Declined reason) h = refl
nothing_stands entries blocks account ask Withdrawn h = refl

pub can_close : (w : World) (name : RequestName) (case : Case) (state : State) → WellKept w
    → get w.requests name ≡ Some case
    → GivesNothing state → has_state_form state ≡ true → CanApply w (Close name.0 name.1 state)
can_close w name case state kept is_there nothing form = (
  ap is_some is_there,
  with_its_state w kept name state form
      (λ old is. nothing_stands w.entries w.blocks name.0 old.ask state nothing),
)

-- ---- Experts

pub can_assign : (w : World) (name : RequestName) (case : Case) (expert : List ℕ) → WellKept w
    → get w.requests name ≡ Some case
    → is_name expert ≡ true → same_text expert name.0 ≡ false
    → contains_key w.queue (name, expert) ≡ false → CanApply w (Assign name.0 name.1 expert)
can_assign w name case expert kept is_there form other free = (
  free,
  with_queue w kept (insert w.queue (name, expert) tt)
      (each_key seat_keys w.queue (name, expert) (λ seat. has_seat_form seat ≡ true) tt kept.queue
      (both_true form (ap not other)))
      (each_key seat_keys w.queue (name, expert) (λ seat. IsSome (get w.requests seat.0)) tt
      kept.queued (ap is_some is_there))
      (λ seat advice is.
      still_in seat_keys w.queue (name, expert) tt seat (kept.advised seat advice is)),
)

pub can_advise : (w : World) (name : RequestName) (expert : List ℕ) (advice : Advice) → WellKept w
    → contains_key w.queue (name, expert) ≡ true
    → has_advice_form advice ≡ true → CanApply w (Advise name.0 name.1 expert advice)
can_advise w name expert advice kept assigned form = (
  tt,
  with_advice w kept (insert w.advice (name, expert) advice)
      (insert_keeps seat_keys (λ seat advice. has_advice_form advice ≡ true) w.advice
      (name, expert) advice kept.advice form)
      (insert_keeps seat_keys (λ seat advice. contains_key w.queue seat ≡ true) w.advice
      (name, expert) advice kept.advised assigned),
)

-- ---- What was given

-- what stands in registers stands in others that have each entry and each block of an account too
module _ (entries others : FinMap place_cmp Registration) (blocks holdings : FinMap block_cmp Holder)
    (each_entry : (account : List ℕ) (place : Place)
    → is_registered_to account (get entries place) ≡ true
    → is_registered_to account (get others place) ≡ true)
    (each_block : (account : List ℕ) (block : SizedPrefix)
    → is_held_by account (get blocks block) ≡ true
    → is_held_by account (get holdings block) ≡ true) where
  registered_still : (account : List ℕ) (registry : Option (List ℕ)) (v : ℕ)
      → is_registered_at entries account registry v ≡ true
      → is_registered_at others account registry v ≡ true
  registered_still account None v h = absurd (cc)
  registered_still account (Some registry) v h = each_entry account (registry, v) h

  stands_still : (account : List ℕ) (ask : Ask) (state : State)
      → stands_in entries blocks account ask state ≡ true
      → stands_in others holdings account ask state ≡ true
  stands_still account ask (Approved (given.Value v)) h =
      registered_still account (registry_of ask) v h
  stands_still account ask (Approved (given.Block block)) h =
      both_true (first_so (is_size_asked ask block.size) (is_held_by account (get blocks block)) h)
      (each_block account block
      (second_so (is_size_asked ask block.size) (is_held_by account (get blocks block)) h))
  stands_still account ask state h = refl

-- so each request stands by other entries, or other blocks, that leave what accounts have
module _ (w : World) (kept : WellKept w) where
  entries_stand : (entries : FinMap place_cmp Registration)
      → ((account : List ℕ) (place : Place)
      → is_registered_to account (get w.entries place) ≡ true
      → is_registered_to account (get entries place) ≡ true)
      → AllStand entries w.blocks w.requests
  entries_stand entries each name case is =
      stands_still w.entries entries w.blocks w.blocks each (λ account block h. h) name.0 case.ask
      case.state (kept.given name case is)

  pub blocks_stand : (blocks : FinMap block_cmp Holder)
      → ((account : List ℕ) (block : SizedPrefix)
      → is_held_by account (get w.blocks block) ≡ true
      → is_held_by account (get blocks block) ≡ true)
      → AllStand w.entries blocks w.requests
  blocks_stand blocks each name case is =
      stands_still w.entries w.entries w.blocks blocks (λ account place h. h) each name.0 case.ask
      case.state (kept.given name case is)

-- the request is the one that is there
pub asks_this : (w : World) (name : RequestName) (case old : Case) (ask : Ask)
    → get w.requests name ≡ Some case → case.ask ≡ ask → get w.requests name ≡ Some old
    → old.ask ≡ ask
asks_this w name case old ask is_there asks is =
    let same : Some old ≡ Some case = sym is ∙ is_there in
    let itself : old ≡ case = cc in
    ap (λ (f : Case). f.ask) itself ∙ asks

-- ---- Entries

pub can_give : (w : World) (name : RequestName) (case : Case) (ask : Ask) (today : ℕ)
    (entry : Entry) → WellKept w → get w.requests name ≡ Some case → case.ask ≡ ask
    → IsDuly w today name.0 ask entry → has_day_form today ≡ true
    → CanApply w (GiveValue name.0 name.1 entry)
can_give w name case ask today entry kept is_there asks duly day =
    let place = place_of entry in
    let a = registration_in entry in
    let after = insert w.entries place a in
    let forms = forms_of w kept name case ask is_there asks in
    let fit = duly_fits w kept name.0 entry ask today forms.1 day duly in (
      ap is_some is_there,
      with_its_state (record w { entries = after })
          (with_entry w kept place a (entry_form w kept name.0 entry ask fit forms.0)
          (entry_open w kept name.0 entry ask fit) fit.held
          (entries_stand w kept after (λ account.
          insert_passes place_keys w.entries place (is_registered_to account) a
          (fit.replaces account))))
          name (Approved (given.Value entry.value)) (value_form w kept name.0 entry ask fit)
          (λ old is.
          subst (λ x. is_registered_at after name.0 x entry.value ≡ true)
          (sym (ap registry_of (asks_this w name case old ask is_there asks is)
          ∙ fit.of_registry))
          (ap (is_registered_to name.0) (get-inserted place_keys w.entries place a)
          ∙ entry_own w kept name.0 entry ask fit)),
    )

-- an entry that expires is marked
pub can_hold : (w : World) (place : Place) (held : Bool) (a : Registration) → WellKept w
    → get w.entries place ≡ Some a → IsSome a.term.expires → a.term.held ≡ not held
    → CanApply w (SetHold place.0 place.1 held)
can_hold w place held a kept is_there expires turned = (
  (a, is_there, turned),
  with_hold_set w kept place held
      (λ old is.
      let same : Some old ≡ Some a = sym is ∙ is_there in
      let itself : old ≡ a = cc in
      held_form old.term held
      (ap (λ (a : Registration). is_some a.term.expires) itself ∙ expires))
      (entries_stand w kept (update w.entries place (with_hold held)) (λ account.
      update_passes place_keys w.entries place (is_registered_to account) (with_hold held)
      (λ old its. its))),
)

-- ---- Agents

pub can_link : (w : World) (link : Link) (reads : Bool) → WellKept w → has_link_form link ≡ true
    → contains_key w.agents link ≡ not reads → CanApply w (SetAgent link.0 link.1 reads)
can_link w link true kept form free = (free, with_link w kept link form)
can_link w link false kept form there = (
  there,
  with_agents w kept (remove w.agents link)
      (λ other left. kept.agents other (was_left link_keys w.agents link other left)),
)
