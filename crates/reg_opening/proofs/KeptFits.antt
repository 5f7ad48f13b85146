-- A row is new to an audit, and fits what it keeps, where it is new to the world and fits it.
use Rattle.std.proofs.Common.{◌≡◌, ℕ, Bool, true, false, ◌&&◌, List, refl, sym, ap, ◌∙◌}
use Rattle.std.specs.Prelude.{Option, Some, None, IsSome, IsTrue, is_some, not, option_map, unwrap_or, ◌↔◌}
use Rattle.std.specs.BTreeMap as tree
use Rattle.std.specs.BTreeSet.{contains}
use Rattle.std.specs.FinMap.{get}
use Rattle.std.specs.Ordering.{nat_cmp}
use Rattle.reg_blocks.specs.Block.{SizedPrefix, Clash, leading_24}
use Rattle.reg_core.specs.Ask.{registry_of}
use Rattle.reg_core.specs.WellKept.{WellKept, is_registered_to, is_registered_at, is_held_by, is_size_asked, stands_in}
use Rattle.reg_core.specs.World.{World, Seat, seat_cmp}
use Rattle.reg_core.specs.declared.advice.Advice.{Advice}
use Rattle.reg_core.specs.declared.ask.Ask.{Ask}
use Rattle.reg_core.specs.declared.entry.Registration.{Registration}
use Rattle.reg_core.specs.declared.holding.Holder.{Holder}
use Rattle.reg_core.specs.declared.holding.Holding.{Holding}
use Rattle.reg_core.specs.declared.request.Case.{Case}
use Rattle.reg_core.specs.declared.request.Given.TheVariants as given
use Rattle.reg_core.specs.declared.request.State.{State}
use Rattle.reg_core.specs.declared.request.State.TheVariants.{Approved}
use Rattle.reg_opening.specs.Audits.{Keeps, account_of, awaits_minute, standing_of}
use Rattle.reg_opening.specs.Blocks.{HoldersAreApart, IsHeld}
use Rattle.reg_opening.specs.Requests.{is_account, is_assigned_at, is_assignee, is_holdable, stands_by}
use Rattle.reg_opening.specs.Rows.{Fits, IsNew, IsApart, is_markable, is_unminuted, seat_of}
use Rattle.reg_opening.specs.declared.audit.Audit.{Audit}
use Rattle.reg_opening.specs.declared.row.Row.TheVariants as row

-- what is kept of something is there where it is
pub there_as : {X Y : Type 0} (f : X → Y) (kept : Option Y) (o : Option X) → kept ≡ option_map f o
    → is_some kept ≡ is_some o
there_as f kept None is = ap is_some is
there_as f kept (Some x) is = ap is_some is

is_assignee-standing : (account : List ℕ) (o : Option Registration)
    → is_assignee account (option_map standing_of o) ≡ is_registered_to account o
is_assignee-standing account None = refl
is_assignee-standing account (Some a) = refl

pub holdable-standing : (o : Option Registration)
    → is_holdable (option_map standing_of o) ≡ is_markable o
holdable-standing None = refl
holdable-standing (Some a) = refl

pub unwrap-awaits : (o : Option Case)
    → unwrap_or (option_map awaits_minute o) false ≡ is_unminuted o
unwrap-awaits None = refl
unwrap-awaits (Some case) = refl

is_account-holder : (account : List ℕ) (o : Option Holder)
    → is_account account (option_map account_of o) ≡ is_held_by account o
is_account-holder account None = refl
is_account-holder account (Some h) = refl

-- two tests with one answer are true together
pub same_truth : (a b : Bool) → a ≡ b → IsTrue a ↔ IsTrue b
same_truth a b e = ((λ h. sym e ∙ h), (λ h. e ∙ h))

-- a test fails where another with the same answer does
pub fails : (r b : Bool) → r ≡ b → IsTrue (not r) ↔ (b ≡ false)
fails true b is = ((λ h. absurd (cc)), (λ h. absurd (cc)))
fails false b is = ((λ h. sym is), (λ h. refl))

-- nothing is there where the test whether something is fails
pub missing : {X : Type 0} (r : Bool) (o : Option X) → r ≡ is_some o → IsTrue (not r) ↔ (o ≡ None)
missing r None is = ((λ h. refl), (λ h. ap not is))
missing r (Some x) is =
    ((λ h. let gone = sym h ∙ ap not is in absurd (cc)), (λ h. absurd (cc)))

-- and where nothing is made of it
unmade : {X Y : Type 0} (f : X → Y) (r : Bool) (o : Option X)
    → is_some (option_map f o) ≡ not r → IsTrue r ↔ (is_some o ≡ false)
unmade f true None is = ((λ h. refl), (λ h. refl))
unmade f false None is = absurd (cc)
unmade f true (Some x) is = absurd (cc)
unmade f false (Some x) is = ((λ h. absurd (cc)), (λ h. absurd (cc)))

-- advice on an assignment is marked where it is there
mark_of : (seat : Option (Unit {0})) (advice : Option Advice) → (IsSome advice → IsSome seat)
    → unwrap_or (option_map (λ there. is_some advice) seat) false ≡ is_some advice
mark_of None None assigned = refl
mark_of None (Some advice) assigned = let there = assigned refl in absurd (cc)
mark_of (Some there) advice assigned = refl

-- advice is on seats
assigned_of : (w : World) → WellKept w → (seat : Seat) → (o : Option Advice)
    → get w.advice seat ≡ o → IsSome o → IsSome (get w.queue seat)
assigned_of w kept seat None is there = absurd (cc)
assigned_of w kept seat (Some advice) is there = kept.advised seat advice is

module _ (audit : Audit) (w : World) (keeps : Keeps audit w) where
  assigned-registered : (account : List ℕ) (registry : Option (List ℕ)) (v : ℕ)
      → is_assigned_at audit.standings account registry v
      ≡ is_registered_at w.entries account registry v
  assigned-registered account None v = refl
  assigned-registered account (Some registry) v =
      ap (is_assignee account) (keeps.standings (registry, v))
      ∙ is_assignee-standing account (get w.entries (registry, v))

  -- a request stands by the accounts that are kept where it stands by the rows
  pub stands_by-stands_in : (account : List ℕ) (ask : Ask) (state : State)
      → stands_by audit.standings audit.holders account ask state
      ≡ stands_in w.entries w.blocks account ask state
  stands_by-stands_in account ask (Approved (given.Value v)) =
      assigned-registered account (registry_of ask) v
  stands_by-stands_in account ask (Approved (given.Block block)) =
      ap (λ held. is_size_asked ask block.size && held)
      (ap (is_account account) (keeps.holders block)
      ∙ is_account-holder account (get w.blocks block))
  stands_by-stands_in account ask _ = refl

  held-given : (block : SizedPrefix)
      → IsHeld audit.holders block ↔ IsSome (get w.blocks block)
  held-given block = same_truth _ _ (there_as account_of _ _ (keeps.holders block))

  -- no two blocks of a well kept world share an address
  pub holders_apart : WellKept w → HoldersAreApart audit.holders
  holders_apart kept a b in_a in_b clash =
      kept.apart a b ((held-given a).0 in_a) ((held-given b).0 in_b) clash

  pub apart_kept : (block : SizedPrefix)
      → ((other : SizedPrefix) → IsHeld audit.holders other → ¬ Clash block other)
      ↔ IsApart w.blocks block
  apart_kept block = (
    (λ apart other there. apart other ((held-given other).1 there)),
    (λ apart other held. apart other ((held-given other).0 held)),
  )

  -- a block of the pool fits where it shares no address with another
  pub block_fits : WellKept w → (holding : Holding) (leading : ℕ) (r : Bool)
      → leading ≡ leading_24 holding.block → IsTrue (contains nat_cmp audit.prefixes leading)
      → (HoldersAreApart audit.holders → IsTrue r
      ↔ ((other : SizedPrefix) → IsHeld audit.holders other → ¬ Clash holding.block other))
      → IsTrue r ↔ Fits w (row.Block holding)
  block_fits kept holding leading r is there tells = (
    (λ h. (
      sym (keeps.prefixes (leading_24 holding.block))
          ∙ ap (contains nat_cmp audit.prefixes) (sym is) ∙ there,
      (apart_kept holding.block).0 ((tells (holders_apart kept)).0 h),
    )),
    (λ fits. (tells (holders_apart kept)).1 ((apart_kept holding.block).1 fits.1)),
  )

  module _ (account reference expert : List ℕ) (found : Option Bool)
      (is : found ≡ tree.get seat_cmp audit.seats (seat_of account reference expert)) where
    seat : Seat
    seat = seat_of account reference expert

    pub new_assignment : (r : Bool) → is_some found ≡ not r
        → IsTrue r ↔ IsNew w (row.Seat account reference expert)
    unfolding seat
    new_assignment r none =
        unmade (λ there. is_some (get w.advice seat)) r (get w.queue seat)
        (sym (ap is_some (is ∙ keeps.seats seat)) ∙ none)

    pub new_advice : WellKept w → (advice : Advice) (r : Bool) → r ≡ unwrap_or found false
        → IsTrue (not r) ↔ IsNew w (row.Advice account reference expert advice)
    unfolding seat
    new_advice kept advice r marked =
        missing r (get w.advice seat)
        (marked ∙ ap (λ o. unwrap_or o false) (is ∙ keeps.seats seat)
        ∙ mark_of (get w.queue seat) (get w.advice seat)
        (assigned_of w kept seat (get w.advice seat) refl))

    pub advice_fits : (advice : Advice) (r : Bool) → r ≡ is_some found
        → IsTrue r ↔ Fits w (row.Advice account reference expert advice)
    unfolding seat
    advice_fits advice r there =
        same_truth r _
        (there ∙ there_as (λ there. is_some (get w.advice seat)) _ _ (is ∙ keeps.seats seat))
