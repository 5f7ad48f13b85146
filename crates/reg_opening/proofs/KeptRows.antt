-- What an audit keeps of a world, as a row is added to both.
use Rattle.std.proofs.Common.{◌≡◌, ℕ, Bool, true, false, cond, List, refl, sym, ap, subst, ◌∙◌}
use Rattle.std.specs.Prelude.{Option, Some, None, IsTrue, is_some, option_map}
use Rattle.std.specs.BTreeMap as tree
use Rattle.std.specs.BTreeMap.{BTreeMap, is_at}
use Rattle.std.specs.BTreeSet as set
use Rattle.std.specs.BTreeSet.{BTreeSet}
use Rattle.std.specs.Cmp.{eq_by_cmp_equiv}
use Rattle.std.specs.FinMap as map
use Rattle.std.specs.FinMap.{FinMap, get, contains_key, insert, get-empty}
use Rattle.std.specs.List.{list_any}
use Rattle.std.specs.Map.{lookup}
use Rattle.std.specs.Ordering.{nat_cmp, eq_by_cmp}
use Rattle.std.specs.declared.cmp.Ordering.{Ordering}
use Rattle.reg_maps.specs.Maps.{text_cmp, replaced, update}
use Rattle.reg_maps.proofs.MapLaws.{IsKeyOrder, number_keys, tied, get-at_insert}
use Rattle.reg_maps.proofs.KeySets.{contains-changed}
use Rattle.reg_blocks.specs.Block.{SizedPrefix, block_cmp}
use Rattle.reg_core.specs.Entry.{registration_in, with_hold}
use Rattle.reg_core.specs.Holding.{holder_in}
use Rattle.reg_core.specs.MayBeGiven.{place_of}
use Rattle.reg_core.specs.Minutes.{ask_with, with_minute}
use Rattle.reg_core.specs.Request.{case_of}
use Rattle.reg_core.specs.World.{World, Place, RequestName, Seat, link_cmp, name_cmp, place_cmp, seat_cmp, empty_world}
use Rattle.reg_core.specs.declared.advice.Advice.{Advice}
use Rattle.reg_core.specs.declared.ask.Ask.{Ask}
use Rattle.reg_core.specs.declared.ask.Ask.TheVariants.{Renew}
use Rattle.reg_core.specs.declared.entry.Entry.{Entry}
use Rattle.reg_core.specs.declared.entry.Registration.{Registration}
use Rattle.reg_core.specs.declared.holding.Holding.{Holding}
use Rattle.reg_core.specs.declared.request.Case.{Case}
use Rattle.reg_core.specs.declared.request.Request.{Request}
use Rattle.reg_core.proofs.KeyOrders.{name_keys, place_keys, seat_keys, block_keys}
use Rattle.reg_vacancies.specs.Vacancies.{MayBeOf}
use Rattle.reg_vacancies.specs.declared.vacancies.Vacancies.{Vacancies}
use Rattle.reg_vacancies.proofs.Carrying.{keys_decide}
use Rattle.reg_opening.specs.Audits.{Keeps, account_of, advised_at, awaits_minute, standing_of}
use Rattle.reg_opening.specs.Rows.{is_unminuted, lacks_minute, with_row, name_of, seat_of, IsNew}
use Rattle.reg_opening.specs.declared.requests.Standing.{Standing}
use Rattle.reg_opening.specs.declared.audit.Audit.{Audit}
use Rattle.reg_opening.specs.declared.row.Row.TheVariants as row

-- ---- A map and a set, beside a map with more in its rows

mapped : {X Y : Type 0} (f : X → Y) (b : Bool) (x : X) (o : Option X)
    → cond b (Some (f x)) (option_map f o) ≡ option_map f (cond b (Some x) o)
mapped f true x o = refl
mapped f false x o = refl

there_or : {X : Type 0} (b : Bool) (x : X) (o : Option X)
    → cond b true (is_some o) ≡ is_some (cond b (Some x) o)
there_or true x o = refl
there_or false x o = refl

-- a mark is set at a key that is there
marked : {X : Type 0} (b : Bool) (x : X) (o : Option X) (key : Option (Unit {0}))
    → (b ≡ true → is_some key ≡ true)
    → cond b (Some true) (option_map (λ there. is_some o) key)
    ≡ option_map (λ there. is_some (cond b (Some x) o)) key
marked true x o None h = let there = h refl in absurd (cc)
marked true x o (Some u) h = refl
marked false x o key h = refl

module _ {K X : Type 0} {R : K → K → Ordering} (o : IsKeyOrder R) (m : FinMap R X) (k : K) (x : X)
  where
    -- a map that keeps a part of each row does so with one row more
    part_put : {Y : Type 0} (f : X → Y) (old new : BTreeMap K Y)
        → tree.Updates R old new k (Some (f x))
        → ((q : K) → tree.get R old q ≡ option_map f (get m q)) → (q : K)
        → tree.get R new q ≡ option_map f (get (insert m k x) q)
    part_put f old new put same q =
        put.0 q
        ∙ (λ i. cond ((eq_by_cmp_equiv o.total).symm k q i) (Some (f x)) (same q i))
        ∙ mapped f (eq_by_cmp R q k) x (get m q)
        ∙ sym (ap (option_map f) (get-at_insert o m k x q))

    -- a map that keeps each row
    pub row_put : (old new : BTreeMap K X) → tree.Updates R old new k (Some x)
        → ((q : K) → tree.get R old q ≡ get m q) → (q : K)
        → tree.get R new q ≡ get (insert m k x) q
    row_put old new put same q =
        put.0 q
        ∙ (λ i. cond ((eq_by_cmp_equiv o.total).symm k q i) (Some x) (same q i))
        ∙ sym (get-at_insert o m k x q)

    -- a set that keeps each key
    pub key_put : (old new : BTreeSet K) → set.Updates R old new k true
        → ((q : K) → set.contains R old q ≡ contains_key m q) → (q : K)
        → set.contains R new q ≡ contains_key (insert m k x) q
    key_put old new put same q =
        put.0 q
        ∙ (λ i. cond ((eq_by_cmp_equiv o.total).symm k q i) true (same q i))
        ∙ there_or (eq_by_cmp R q k) x (get m q)
        ∙ sym (ap is_some (get-at_insert o m k x q))

-- ---- An audit

-- where a minute came, none lacks
minute_came : (minute : List ℕ) (ask : Ask) → lacks_minute (ask_with (Some minute) ask) ≡ false
minute_came minute (Renew ask) = refl
minute_came minute _ = refl

-- what is free is so when an entry is marked
marked_free : (w : World) (place : Place) (free : Option Vacancies) → MayBeOf w free
    → MayBeOf (record w { entries = update w.entries place (with_hold true) }) free
marked_free w place None are = tt
marked_free w place (Some vacancies) are =
    keys_decide vacancies w.entries (update w.entries place (with_hold true)) w.pool w.blocks w.blocks
    (contains-changed place_keys w.entries place (with_hold true)) (λ block. refl) are

module _ (audit : Audit) (w : World) (keeps : Keeps audit w) where
  pub keeps_entry : (new : BTreeMap Place Standing) (entry : Entry)
      → tree.Updates place_cmp audit.standings new (place_of entry)
      (Some (standing_of (registration_in entry)))
      → (free : Option Vacancies) → MayBeOf (with_row w (row.Entry entry)) free
      → Keeps (record audit { standings = new; free = free }) (with_row w (row.Entry entry))
  keeps_entry new entry put free left =
      assumption (
        part_put place_keys w.entries (place_of entry) (registration_in entry) standing_of
            audit.standings new put keeps.standings,
        left,
        keeps,
      )

  pub keeps_prefix : (new : BTreeSet ℕ) (prefix : ℕ)
      → set.Updates nat_cmp audit.prefixes new prefix true
      → (free : Option Vacancies) → MayBeOf (with_row w (row.Prefix prefix)) free
      → Keeps (record audit { prefixes = new; free = free }) (with_row w (row.Prefix prefix))
  keeps_prefix new prefix put free left =
      assumption (
        key_put number_keys w.pool prefix tt audit.prefixes new put keeps.prefixes,
        left,
        keeps,
      )

  pub keeps_block : (new : BTreeMap SizedPrefix (List ℕ)) (holding : Holding)
      → tree.Updates block_cmp audit.holders new holding.block (Some holding.holder)
      → (free : Option Vacancies) → MayBeOf (with_row w (row.Block holding)) free
      → Keeps (record audit { holders = new; free = free }) (with_row w (row.Block holding))
  keeps_block new holding put free left =
      assumption (
        part_put block_keys w.blocks holding.block (holder_in holding) account_of audit.holders
            new put keeps.holders,
        left,
        keeps,
      )

  pub keeps_request : (new : BTreeMap RequestName Bool) (request : Request)
      → tree.Updates name_cmp audit.requests new (name_of request)
      (Some (awaits_minute (case_of request)))
      → Keeps (record audit { requests = new }) (with_row w (row.Request request))
  keeps_request new request put =
      assumption (
        part_put name_keys w.requests (name_of request) (case_of request) awaits_minute
            audit.requests new put keeps.requests,
        keeps,
      )

  -- a mark of an entry that stands: it can be held no more
  held_with : (new : BTreeMap Place Standing) (place : Place) (a : Registration)
      → tree.Updates place_cmp audit.standings new place
      (Some (standing_of (with_hold true a)))
      → get w.entries place ≡ Some a → (q : Place)
      → tree.get place_cmp new q ≡ option_map standing_of (get (update w.entries place (with_hold true)) q)
  held_with new place a put is q =
      part_put place_keys w.entries place (with_hold true a) standing_of audit.standings new put
      keeps.standings q
      ∙ sym (ap (λ r. option_map standing_of (get (replaced w.entries place (option_map (with_hold true) r)) q)) is)

  pub keeps_hold : (new : BTreeMap Place Standing) (registry : List ℕ) (value : ℕ) (was : Standing)
      → tree.get place_cmp audit.standings (registry, value) ≡ Some was
      → tree.Updates place_cmp audit.standings new (registry, value)
      (Some (record was { can_be_held = false }))
      → Keeps (record audit { standings = new }) (with_row w (row.Hold registry value))
  keeps_hold new registry value was there put =
      assumption (
        by (get w.entries (registry, value)) refl
            (sym (keeps.standings (registry, value)) ∙ there),
        marked_free w (registry, value) audit.free keeps.free,
        keeps,
      )
    where
      by : (r : Option Registration) → get w.entries (registry, value) ≡ r
          → option_map standing_of r ≡ Some was → (q : Place)
          → tree.get place_cmp new q
          ≡ option_map standing_of (get (update w.entries (registry, value) (with_hold true)) q)
      by None is e = absurd (cc)
      by (Some a) is e =
          let same : standing_of a ≡ was = cc in
          held_with new (registry, value) a
          (subst (λ (s : Standing). tree.Updates place_cmp audit.standings new (registry, value)
          (Some (record s { can_be_held = false }))) (sym same) put) is

  -- where no entry is, none is marked
  pub keeps_unheld : (registry : List ℕ) (value : ℕ)
      → tree.get place_cmp audit.standings (registry, value) ≡ None
      → Keeps audit (with_row w (row.Hold registry value))
  keeps_unheld registry value none =
      by (get w.entries (registry, value)) refl
      (sym (keeps.standings (registry, value)) ∙ none)
    where
      by : (r : Option Registration) → get w.entries (registry, value) ≡ r
          → option_map standing_of r ≡ None → Keeps audit (with_row w (row.Hold registry value))
      by None is e =
          subst (λ (m : FinMap place_cmp Registration). Keeps audit (record w { entries = m }))
          (sym (ap (λ r. replaced w.entries (registry, value) (option_map (with_hold true) r)) is))
          keeps
      by (Some a) is e = absurd (cc)

  -- a minute of a renewal that is there: no other comes
  pub keeps_minute : (new : BTreeMap RequestName Bool) (account reference minute : List ℕ)
      → tree.Updates name_cmp audit.requests new (account, reference) (Some false)
      → IsNew w (row.Minute account reference minute)
      → Keeps (record audit { requests = new }) (with_row w (row.Minute account reference minute))
  keeps_minute new account reference minute put new_row =
      assumption (by (get w.requests (account, reference)) refl new_row, keeps)
    where
      by : (r : Option Case) → get w.requests (account, reference) ≡ r → is_unminuted r ≡ true
          → (q : RequestName) → tree.get name_cmp new q
          ≡ option_map awaits_minute (get (update w.requests (account, reference) (with_minute (Some minute))) q)
      by None is e = absurd (cc)
      by (Some case) is e = λ q.
          part_put name_keys w.requests (account, reference) (with_minute (Some minute) case) awaits_minute
          audit.requests new
          (subst (λ (b : Bool). tree.Updates name_cmp audit.requests new (account, reference) (Some b))
          (sym (minute_came minute case.ask)) put) keeps.requests q
          ∙ sym (ap (λ r. option_map awaits_minute
          (get (replaced w.requests (account, reference) (option_map (with_minute (Some minute)) r)) q)) is)

  -- nobody was assigned to it, and nobody has advised yet
  pub keeps_assignment : (new : BTreeMap Seat Bool) (account reference expert : List ℕ)
      → w.advice ≡ map.empty
      → tree.Updates seat_cmp audit.seats new (seat_of account reference expert)
      (Some false)
      → Keeps (record audit { seats = new })
      (with_row w (row.Seat account reference expert))
  keeps_assignment new account reference expert turn put = assumption (assigned, keeps)
    where
      seat : Seat
      seat = seat_of account reference expert

      assigned : (q : Seat) → tree.get seat_cmp new q
          ≡ advised_at (with_row w (row.Seat account reference expert)) q
      assigned q =
          let unadvised : is_some (get w.advice q) ≡ false =
          ap (λ m. is_some (get m q)) turn ∙ ap is_some (get-empty seat_cmp q) in
          put.0 q
          ∙ (λ i. cond ((eq_by_cmp_equiv seat_keys.total).symm seat q i) (Some (sym unadvised i))
          (keeps.seats q i))
          ∙ mapped (λ there. is_some (get w.advice q)) (eq_by_cmp seat_cmp q seat) tt
          (get w.queue q)
          ∙ sym (ap (option_map (λ there. is_some (get w.advice q)))
          (get-at_insert seat_keys w.queue seat tt q))

  -- the request is assigned to the expert, who has advised now
  pub keeps_advice : (new : BTreeMap Seat Bool) (account reference expert : List ℕ)
      (advice : Advice) → IsTrue (contains_key w.queue (seat_of account reference expert))
      → tree.Updates seat_cmp audit.seats new (seat_of account reference expert) (Some true)
      → Keeps (record audit { seats = new })
      (with_row w (row.Advice account reference expert advice))
  keeps_advice new account reference expert advice assigned put = assumption (advised, keeps)
    where
      seat : Seat
      seat = seat_of account reference expert

      advised : (q : Seat) → tree.get seat_cmp new q
          ≡ advised_at (with_row w (row.Advice account reference expert advice)) q
      advised q =
          put.0 q
          ∙ (λ i. cond ((eq_by_cmp_equiv seat_keys.total).symm seat q i) (Some true)
          (keeps.seats q i))
          ∙ marked (eq_by_cmp seat_cmp q seat) advice (get w.advice q) (get w.queue q)
          (λ t. subst (λ (s : Seat). contains_key w.queue s ≡ true) (sym (tied seat_keys q seat t))
          assigned)
          ∙ sym (ap (λ o. option_map (λ there. is_some o) (get w.queue q))
          (get-at_insert seat_keys w.advice seat advice q))

  -- where no memory was there, what was kept is
  pub keeps_still : (new : BTreeMap Seat Bool) → tree.IsUnchanged audit.seats new
      → Keeps (record audit { seats = new }) w
  keeps_still new same =
      assumption (
        λ (q : Seat). ap (lookup (is_at (seat_cmp q))) same ∙ keeps.seats q,
        keeps,
      )

  pub keeps_requests_still : (new : BTreeMap RequestName Bool)
      → tree.IsUnchanged audit.requests new → Keeps (record audit { requests = new }) w
  keeps_requests_still new same =
      assumption (
        λ (q : RequestName). ap (lookup (is_at (name_cmp q))) same ∙ keeps.requests q,
        keeps,
      )

-- ---- No rows

none_in_map : {K Y : Type 0} (R : K → K → Ordering) (m : BTreeMap K Y) → tree.IsEmpty m → (q : K)
    → tree.get R m q ≡ None
none_in_map R m none q = ap (lookup (is_at (R q))) none

none_in_set : {K : Type 0} (R : K → K → Ordering) (s : BTreeSet K) → set.IsEmpty s → (q : K)
    → set.contains R s q ≡ false
none_in_set R s none q = ap (list_any (is_at (R q))) none

-- maps and sets without rows keep a world without rows
pub keeps_none : (audit : Audit) → set.IsEmpty audit.caps → tree.IsEmpty audit.registries
    → tree.IsEmpty audit.standings → set.IsEmpty audit.prefixes → tree.IsEmpty audit.holders
    → tree.IsEmpty audit.requests → tree.IsEmpty audit.seats → set.IsEmpty audit.links
    → MayBeOf empty_world audit.free → Keeps audit empty_world
keeps_none audit caps registries standings prefixes holders requests seats links free = record {
  caps = λ q. none_in_set text_cmp audit.caps caps q ∙ sym (ap is_some (get-empty text_cmp q));
  registries = λ q.
      none_in_map text_cmp audit.registries registries q ∙ sym (get-empty text_cmp q);
  standings = λ q.
      none_in_map place_cmp audit.standings standings q
      ∙ sym (ap (option_map standing_of) (get-empty place_cmp q));
  prefixes = λ q.
      none_in_set nat_cmp audit.prefixes prefixes q ∙ sym (ap is_some (get-empty nat_cmp q));
  holders = λ q.
      none_in_map block_cmp audit.holders holders q
      ∙ sym (ap (option_map account_of) (get-empty block_cmp q));
  requests = λ q.
      none_in_map name_cmp audit.requests requests q
      ∙ sym (ap (option_map awaits_minute) (get-empty name_cmp q));
  seats = λ q.
      none_in_map seat_cmp audit.seats seats q
      ∙ sym (ap (option_map (λ there. is_some (get empty_world.advice q)))
      (get-empty seat_cmp q));
  links = λ q. none_in_set link_cmp audit.links links q ∙ sym (ap is_some (get-empty link_cmp q));
  free = free;
}
