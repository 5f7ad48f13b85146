-- What writes to the tables of requests and of their minutes make of the requests of an office.
use Rattle.std.proofs.Common.{◌≡◌, ℕ, Bool, true, false, if◌then◌else◌, List, Option, Some, None}
use Rattle.std.proofs.Common.{is_some, option_and_then, refl, sym, ap, ◌∙◌}
use Rattle.std.specs.FinMap.{FinMap, get, insert}
use Rattle.std.specs.Ordering.{eq_by_cmp}
use Rattle.reg_maps.specs.Maps.{update}
use Rattle.reg_maps.specs.RowMaps.{changed_where}
use Rattle.reg_maps.proofs.KeySets.{each_key}
use Rattle.reg_maps.proofs.MapLaws.{get-inserted, get-select, tied}
use Rattle.reg_maps.proofs.RowMaps.Tables.{changed_alone}
use Rattle.reg_core.specs.Request.{case_of}
use Rattle.reg_core.specs.World.{RequestName, World, in_state, name_cmp, pending, with_state}
use Rattle.reg_core.specs.declared.ask.Ask.{Ask}
use Rattle.reg_core.specs.declared.ask.Ask.TheVariants.{Renew}
use Rattle.reg_core.specs.declared.request.Case.{Case}
use Rattle.reg_core.specs.declared.request.Request.{Request}
use Rattle.reg_core.specs.declared.request.State.{State}
use Rattle.reg_records.specs.Requests.Forms.{gives_its_kind}
use Rattle.reg_core.specs.Minutes.{ask_with, bare, bare_ask, is_renewal, minute_of, with_minute}
use Rattle.reg_core.proofs.KeyOrders.{name_keys}
use Rattle.reg_records.specs.declared.minutes.Minute.{Minute}
use Rattle.reg_records.proofs.RequestLaws.Rows.{gives_its_kind-bare_ask}
use Rattle.reg_statements.specs.Content.{AreTied, assembled, minuted}
use Rattle.reg_statements.specs.Defined.{AllCan, HasFreeKey, KeepsTies, with_changed, with_row}
use Rattle.reg_statements.specs.Office as office
use Rattle.reg_statements.specs.Parts.{Parts}
use Rattle.reg_statements.proofs.Minutes.{get-minuted, minuted-add, minuted-insert, minuted-state}
use Rattle.reg_rows.specs.Marks.{CanName}
use Rattle.reg_rows.proofs.Fitting.{can_have}
use Rattle.reg_rows.proofs.Found.{nothing}
use Rattle.reg_rows.proofs.JoinedRows.{was_made}
use Rattle.reg_rows.proofs.MarksWritten.{still_there, update-inserted}

-- ---- Asks with minutes and without

twice_asked : (ask : Ask) (minute other : Option (List ℕ))
    → ask_with minute (ask_with other ask) ≡ ask_with minute ask
twice_asked (Renew a) minute other = refl
twice_asked ask minute other = refl

-- an ask with its own minute is that ask
pub own_minute : (ask : Ask) (minute : Option (List ℕ)) → minute_of ask ≡ minute
    → ask_with minute ask ≡ ask
own_minute (Renew a) minute is = ap (λ minute. Renew (record a { iesg = minute })) (sym is)
own_minute ask minute is = refl

-- what is given does not go by the minute
same_kind : (ask : Ask) (minute : Option (List ℕ)) (state : State)
    → gives_its_kind (ask_with minute ask) state ≡ gives_its_kind ask state
same_kind ask minute state =
    sym (gives_its_kind-bare_ask (ask_with minute ask) state)
    ∙ ap (λ ask. gives_its_kind ask state) (twice_asked ask None minute)
    ∙ gives_its_kind-bare_ask ask state

-- only a renewal has a minute, and it is the one that it was given
renewed_by : (ask : Ask) (minute : Option (List ℕ)) → is_renewal (ask_with minute ask) ≡ true
    → (is_renewal ask ≡ true) × (minute_of (ask_with minute ask) ≡ minute)
renewed_by (Renew a) minute is = (refl, refl)
renewed_by ask minute is = absurd (cc)

bare_named : (ask : Ask) (minute : List ℕ) → minute_of ask ≡ Some minute
    → (is_renewal (bare_ask ask) ≡ true) × (minute_of (bare_ask ask) ≡ None)
bare_named (Renew a) minute is = (refl, refl)
bare_named ask minute is = absurd (cc)

-- ---- Requests beside their minutes

module _ (p : Parts) (ties : AreTied p) (name : RequestName) where
  -- the request of the office of this name is the one of the table with its minute
  record Asked (case : Case) : Type 0 where
    bare : Case
    there : get p.requests name ≡ Some bare
    is : with_minute (get p.minutes name) bare ≡ case

  asked : (case : Case) → get (assembled p).requests name ≡ Some case → Asked case
  asked case is =
      let it = was_made (with_minute (get p.minutes name)) (get p.requests name) case
      (sym (get-minuted p.minutes p.requests name) ∙ is) in
      record { bare = it.item; there = it.is; is = it.makes }

  -- where there is no request there is no minute
  absent_both : get (assembled p).requests name ≡ None
      → (get p.requests name ≡ None) × (get p.minutes name ≡ None)
  absent_both none =
      let row = nothing (with_minute (get p.minutes name)) (get p.requests name)
      (sym (get-minuted p.minutes p.requests name) ∙ none) in
      (row, go (get p.minutes name) refl row)
    where
      go : (r : Option (List ℕ)) → get p.minutes name ≡ r → get p.requests name ≡ None → r ≡ None
      go None is row = refl
      go (Some minute) is row =
          let found = ties.minutes name (ap is_some is) in
          let is_there = found.1 in
          absurd (cc)

-- ---- A request more, without its minute

module _ (p : Parts) (ties : AreTied p) (request : Request) where
  abbrev at : RequestName
  at = (request.account, request.reference)

  pub request_added : get (assembled p).requests at ≡ None
      → (HasFreeKey office.requests (bare request) p
      × KeepsTies (with_row office.requests (bare request)) p)
      × (assembled (with_row office.requests (bare request) p) ≡ record (assembled p) {
        requests = insert (assembled p).requests at (case_of (bare request));
      })
  request_added none =
      let both = absent_both p ties at none in (
        (
          both.0,
          λ old. record {
            ranges = old.ranges;
            holds = old.holds;
            minutes = λ q is.
                let found = old.minutes q is in
                still_there name_keys p.requests at (case_of (bare request))
                (λ case. is_renewal case.ask ≡ true) q (λ t.
                let same : q ≡ at = tied name_keys q at t in
                let row = both.0 in
                let is_there = found.1 in
                let moved : get p.requests q ≡ get p.requests at = ap (get p.requests) same in
                absurd (cc)) found;
            acts = old.acts;
          },
        ),
        ap (λ m. record (assembled p) { requests = m })
            (minuted-insert p.minutes p.requests at (case_of (bare request))
            ∙ ap (λ minute. insert (assembled p).requests at
            (with_minute minute (case_of (bare request)))) both.1
            ∙ ap (λ ask. insert (assembled p).requests at
            (record { ask = ask; state = request.state })) (twice_asked request.ask None None)),
      )

-- ---- A minute more

module _ (p : Parts) (ties : AreTied p) (row : Minute) where
  abbrev named : RequestName
  named = (row.account, row.reference)

  pub minute_added : CanName named (assembled p)
      → (HasFreeKey office.minutes row p × KeepsTies (with_row office.minutes row) p)
      × (assembled (with_row office.minutes row p) ≡ record (assembled p) {
        requests = update (assembled p).requests named (with_minute (Some row.minute));
      })
  minute_added fits =
      let request = asked p ties named fits.0 fits.1 in
      let kind = renewed_by request.bare.ask (get p.minutes named)
      (ap (λ (case : Case). is_renewal case.ask) request.is ∙ fits.2) in
      let none : get p.minutes named ≡ None =
      sym kind.1 ∙ ap (λ (case : Case). minute_of case.ask) request.is ∙ fits.3 in (
        (
          none,
          λ old. record {
            ranges = old.ranges;
            holds = old.holds;
            minutes = each_key name_keys p.minutes named
                (λ q. (case : Case) × (get p.requests q ≡ Some case) × (is_renewal case.ask ≡ true))
                row.minute old.minutes (request.bare, request.there, kind.0);
            acts = old.acts;
          },
        ),
        ap (λ m. record (assembled p) { requests = m })
            (minuted-add p.minutes p.requests named row.minute),
      )

-- a minute that is this one
pub minute_named : (p : Parts) → AreTied p → (row : Minute) (minute : List ℕ) → row.minute ≡ minute
    → CanName (row.account, row.reference) (assembled p)
    → (HasFreeKey office.minutes row p × KeepsTies (with_row office.minutes row) p)
    × (assembled (with_row office.minutes row p) ≡ record (assembled p) {
      requests = update (assembled p).requests (row.account, row.reference)
          (with_minute (Some minute));
    })
minute_named p ties row minute is fits =
    let added = minute_added p ties row fits in (
      added.0,
      added.1 ∙ ap (λ minute. record (assembled p) {
        requests = update (assembled p).requests (row.account, row.reference)
            (with_minute (Some minute));
      }) is,
    )

-- ---- A request in another state

module _ (p : Parts) (ties : AreTied p) (name : RequestName) (state : State) where
  abbrev of_name : RequestName → Case → Bool
  of_name other case = eq_by_cmp name_cmp other name

  abbrev after : FinMap name_cmp Case
  after = changed_where of_name (in_state state) p.requests

  -- a request of each name asks for what it asked for
  asks_on : (q : RequestName)
      → (case : Case) × (get p.requests q ≡ Some case) × (is_renewal case.ask ≡ true)
      → (case : Case) × (get after q ≡ Some case) × (is_renewal case.ask ≡ true)
  asks_on q found = (
    (if of_name q found.0 then in_state state found.0 else found.0),
    get-select name_keys (λ other case. Some (if of_name other case then in_state state case else case))
        p.requests q
        ∙ ap (option_and_then (λ case. Some (if of_name q case then in_state state case else case)))
        found.1,
    elim (of_name q found.0) as (λ b. is_renewal (if b then in_state state found.0 else found.0).ask
        ≡ true) [ true ↦ found.2 | false ↦ found.2 ],
  )

  pub state_set : (case : Case) × (get (assembled p).requests name ≡ Some case)
      × (gives_its_kind case.ask state ≡ true)
      → (AllCan office.requests of_name (λ case. gives_its_kind case.ask state) p
      × KeepsTies (with_changed office.requests of_name (in_state state)) p)
      × (assembled (with_changed office.requests of_name (in_state state) p)
      ≡ with_state (assembled p) name state)
  state_set fits =
      let request = asked p ties name fits.0 fits.1 in
      let kind : gives_its_kind request.bare.ask state ≡ true =
      sym (same_kind request.bare.ask (get p.minutes name) state)
      ∙ ap (λ (case : Case). gives_its_kind case.ask state) request.is ∙ fits.2 in (
        (
          can_have p.requests name state request.bare request.there kind,
          λ old. record {
            ranges = old.ranges;
            holds = old.holds;
            minutes = λ q is. asks_on q (old.minutes q is);
            acts = old.acts;
          },
        ),
        ap (λ m. record (assembled p) { requests = m })
            (ap (minuted p.minutes) (changed_alone name_keys p.requests name of_name (in_state state)
            (λ other case is. refl))
            ∙ minuted-state p.minutes p.requests name state),
      )

-- ---- A request with its minute

module _ (w : World) (name : RequestName) (ask : Ask) (minute : List ℕ)
    (names : minute_of ask ≡ Some minute) where
  pub can_name : CanName name (record w {
    requests = insert w.requests name (pending (bare_ask ask));
  })
  can_name =
      let it = bare_named ask minute names in
      (pending (bare_ask ask), get-inserted name_keys w.requests name (pending (bare_ask ask)), it.0, it.1)

  pub minute_put : update (insert w.requests name (pending (bare_ask ask))) name
      (with_minute (Some minute)) ≡ insert w.requests name (pending ask)
  minute_put =
      update-inserted name_keys w.requests name (pending (bare_ask ask)) (with_minute (Some minute))
      ∙ ap (λ ask. insert w.requests name (pending ask))
      (twice_asked ask (Some minute) None ∙ own_minute ask (Some minute) names)
