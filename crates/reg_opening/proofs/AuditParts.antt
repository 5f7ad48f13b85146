-- Parts of well kept worlds are well kept.
use Rattle.std.proofs.Common.{◌≡◌, ℕ, true, List, refl, sym, ap, ◌∙◌, inl, inr}
use Rattle.std.specs.Prelude.{Option, Some, None, IsSome, is_some, ◌⊎◌}
use Rattle.std.specs.FinMap as map
use Rattle.std.specs.FinMap.{FinMap, get, contains_key, get-empty}
use Rattle.std.specs.declared.cmp.Ordering.{Ordering}
use Rattle.reg_blocks.specs.Block.{SizedPrefix, leading_24}
use Rattle.reg_early.specs.Terms.{may_be_held}
use Rattle.reg_core.specs.Entry.{with_hold}
use Rattle.reg_core.specs.Minutes.{with_minute}
use Rattle.reg_core.specs.WellKept.{WellKept, has_entry_form, has_request_form, is_open_at, stands_in}
use Rattle.reg_core.specs.World.{World, Place, RequestName, Seat, name_cmp, place_cmp}
use Rattle.reg_core.specs.declared.advice.Advice.{Advice}
use Rattle.reg_core.specs.declared.entry.Registration.{Registration}
use Rattle.reg_core.specs.declared.holding.Holder.{Holder}
use Rattle.reg_core.specs.declared.request.Case.{Case}
use Rattle.reg_opening.specs.Laws.{IsPart}
use Rattle.reg_opening.specs.Rows.{lacks_minute}
use Rattle.reg_opening.proofs.Minutes.{hold_lowered, named_stands, request_lowered}

-- a map without rows has none
pub no_row : {K X P : Type 0} {R : K → K → Ordering} (m : FinMap R X) → m ≡ map.empty → (k : K)
    (x : X) → get m k ≡ Some x → P
no_row {R = R} m none k x there =
    let gone : get m k ≡ None = ap (λ n. get n k) none ∙ get-empty R k in absurd (cc)

pub no_key : {K X P : Type 0} {R : K → K → Ordering} (m : FinMap R X) → m ≡ map.empty → (k : K)
    → IsSome (get m k) → P
no_key {R = R} m none k there =
    let gone = ap is_some (ap (λ n. get n k) none ∙ get-empty R k) in absurd (cc)

-- a key of a map is one of another that has all its rows
pub still_there : {K X : Type 0} {R : K → K → Ordering} (m n : FinMap R X)
    → ((k : K) (x : X) → get m k ≡ Some x → get n k ≡ Some x) → (k : K) → IsSome (get m k)
    → IsSome (get n k)
still_there {X = X} m n each k there = from (get m k) refl there
  where
    from : (row : Option X) → get m k ≡ row → IsSome row → IsSome (get n k)
    from None is there = absurd (cc)
    from (Some x) is there = ap is_some (each k x is)

module _ (part whole : World) (rows : IsPart part whole) (kept : WellKept whole) where
  -- what holds of each entry of the whole, and of one without its mark if it does with it, holds of
  -- each of the part
  entered : (P : Place → Registration → Type 0)
      → ((place : Place) (a : Registration) → P place (with_hold true a) → P place a)
      → ((place : Place) (a : Registration) → get whole.entries place ≡ Some a → P place a)
      → (place : Place) (a : Registration) → get part.entries place ≡ Some a → P place a
  entered P unmarked each place a there = by (rows.entries place a there)
    where
      by : (get whole.entries place ≡ Some a) ⊎ (get whole.entries place ≡ Some (with_hold true a))
          → P place a
      by (inl is) = each place a is
      by (inr is) = unmarked place a (each place (with_hold true a) is)

  -- and so of each request
  asked : (P : RequestName → Case → Type 0)
      → ((name : RequestName) (case : Case) (minute : List ℕ) → lacks_minute case.ask ≡ true
      → P name (with_minute (Some minute) case) → P name case)
      → ((name : RequestName) (case : Case) → get whole.requests name ≡ Some case → P name case)
      → (name : RequestName) (case : Case) → get part.requests name ≡ Some case → P name case
  asked P unminuted each name case there = by (rows.requests name case there)
    where
      by : (get whole.requests name ≡ Some case)
          ⊎ ((minute : List ℕ) × (lacks_minute case.ask ≡ true)
          × (get whole.requests name ≡ Some (with_minute (Some minute) case)))
          → P name case
      by (inl is) = each name case is
      by (inr (minute, lacks, is)) =
          unminuted name case minute lacks (each name (with_minute (Some minute) case) is)

  opened : (part.entries ≡ map.empty) ⊎ (part.registries ≡ whole.registries) → (place : Place)
      (a : Registration) → get part.entries place ≡ Some a
      → is_open_at (get part.registries place.0) place.1 ≡ true
  opened (inl none) place a there = no_row part.entries none place a there
  opened (inr all) place a there =
      ap (λ m. is_open_at (get m place.0) place.1) all
      ∙ entered (λ place a. is_open_at (get whole.registries place.0) place.1 ≡ true)
      (λ place a opened. opened) kept.open_values place a there

  standing : (part.requests ≡ map.empty)
      ⊎ ((part.entries ≡ whole.entries) × (part.blocks ≡ whole.blocks)) → (name : RequestName)
      (case : Case) → get part.requests name ≡ Some case
      → stands_in part.entries part.blocks name.0 case.ask case.state ≡ true
  standing (inl none) name case there = no_row part.requests none name case there
  standing (inr (entries, blocks)) name case there =
      (λ i. stands_in (entries i) (blocks i) name.0 case.ask case.state)
      ∙ asked (λ name case. stands_in whole.entries whole.blocks name.0 case.ask case.state ≡ true)
      (λ name case minute lacks stands.
      sym (named_stands whole.entries whole.blocks name.0 minute case.ask case.state) ∙ stands)
      kept.given name case there

  requested : (part.queue ≡ map.empty) ⊎ (part.requests ≡ whole.requests) → (seat : Seat)
      → contains_key part.queue seat ≡ true → IsSome (get part.requests seat.0)
  requested (inl none) seat there = no_key part.queue none seat there
  requested (inr all) seat there =
      ap (λ m. is_some (get m seat.0)) all ∙ kept.queued seat (rows.queue seat there)

  assigned : (part.advice ≡ map.empty) ⊎ (part.queue ≡ whole.queue) → (seat : Seat)
      (advice : Advice) → get part.advice seat ≡ Some advice
      → contains_key part.queue seat ≡ true
  assigned (inl none) seat advice there = no_row part.advice none seat advice there
  assigned (inr all) seat advice there =
      ap (λ m. contains_key m seat) all
      ∙ kept.advised seat advice (rows.advice seat advice there)

  pooled : (part.blocks ≡ map.empty) ⊎ (part.pool ≡ whole.pool) → (block : SizedPrefix)
      (h : Holder) → get part.blocks block ≡ Some h
      → contains_key part.pool (leading_24 block) ≡ true
  pooled (inl none) block h there = no_row part.blocks none block h there
  pooled (inr all) block h there =
      ap (λ m. contains_key m (leading_24 block)) all
      ∙ kept.in_pool block h (rows.blocks block h there)

  pub part_kept : WellKept part
  part_kept = record {
    caps = λ digest cap there. kept.caps digest cap (rows.caps digest cap there);
    registries = λ name table there. kept.registries name table (rows.registries name table there);
    entries = entered (λ place a. has_entry_form place a ≡ true) (λ place a form. form) kept.entries;
    held = entered (λ place a. may_be_held a.term ≡ true)
        (λ place a expires. hold_lowered a.term.held (is_some a.term.expires) expires) kept.held;
    open_values = opened rows.all_registries;
    requests = asked (λ name case. has_request_form name case ≡ true)
        (λ name case minute lacks form. request_lowered name minute case lacks form) kept.requests;
    given = standing rows.all_given;
    queue = λ seat there. kept.queue seat (rows.queue seat there);
    queued = requested rows.all_requests;
    advice = λ seat advice there. kept.advice seat advice (rows.advice seat advice there);
    advised = assigned rows.all_seats;
    pool = λ prefix there. kept.pool prefix (rows.pool prefix there);
    blocks = λ block h there. kept.blocks block h (rows.blocks block h there);
    in_pool = pooled rows.all_prefixes;
    apart = λ a b in_a in_b.
        kept.apart a b (still_there part.blocks whole.blocks rows.blocks a in_a)
        (still_there part.blocks whole.blocks rows.blocks b in_b);
    agents = λ link there. kept.agents link (rows.agents link there);
  }

-- ---- More rows in one map

-- the rows of a world are part of themselves
pub part_itself : (w : World) → IsPart w w
part_itself w = record {
  caps = λ digest cap there. there;
  registries = λ name table there. there;
  entries = λ place a there. inl there;
  requests = λ name case there. inl there;
  queue = λ seat there. there;
  advice = λ seat advice there. there;
  pool = λ prefix there. there;
  blocks = λ block h there. there;
  agents = λ link there. there;
  all_registries = inr refl;
  all_prefixes = inr refl;
  all_given = inr (refl, refl);
  all_requests = inr refl;
  all_seats = inr refl;
}

-- and of those of a world with more of its entries or requests, where there is no row yet that is
-- judged by these
module _ (w : World) where
  pub more_entries : (entries : FinMap place_cmp Registration) → w.requests ≡ map.empty
      → ((place : Place) (a : Registration) → get w.entries place ≡ Some a
      → (get entries place ≡ Some a) ⊎ (get entries place ≡ Some (with_hold true a)))
      → IsPart w (record w { entries = entries })
  more_entries entries none stay =
      let turn : (w.requests ≡ map.empty)
      ⊎ ((w.entries ≡ entries) × (w.blocks ≡ w.blocks)) = inl none in
      assumption (stay, turn, part_itself w)

  pub more_requests : (requests : FinMap name_cmp Case) → w.queue ≡ map.empty
      → ((name : RequestName) (case : Case) → get w.requests name ≡ Some case
      → (get requests name ≡ Some case)
      ⊎ ((minute : List ℕ) × (lacks_minute case.ask ≡ true)
      × (get requests name ≡ Some (with_minute (Some minute) case))))
      → IsPart w (record w { requests = requests })
  more_requests requests none stay =
      let turn : (w.queue ≡ map.empty) ⊎ (w.requests ≡ requests) = inl none in
      assumption (stay, turn, part_itself w)
