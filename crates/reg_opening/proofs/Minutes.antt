-- What a minute leaves of a request, and a mark of an entry.
use Rattle.std.proofs.Common.{◌≡◌, ℕ, Bool, true, false, cond, ◌&&◌, ◌||◌, List, refl, sym, ap, ◌∙◌, inl, inr}
use Rattle.std.specs.Prelude.{Option, Some, None, is_none, not, option_map, ◌⊎◌}
use Rattle.std.specs.Cmp.{first_so}
use Rattle.std.specs.FinMap.{FinMap, get}
use Rattle.std.specs.Ordering.{eq_by_cmp}
use Rattle.std.specs.declared.cmp.Ordering.{Ordering}
use Rattle.reg_maps.specs.Maps.{update}
use Rattle.reg_maps.proofs.MapLaws.{IsKeyOrder, get-update, tied}
use Rattle.reg_ranges.specs.Texts.{is_text}
use Rattle.reg_blocks.specs.Block.{block_cmp}
use Rattle.reg_blocks.specs.declared.size.Size.{Size}
use Rattle.reg_core.specs.Ask.{has_ask_form, has_note_form, has_renewal_form, registry_of}
use Rattle.reg_core.specs.Minutes.{ask_with, with_minute}
use Rattle.reg_core.specs.Names.{is_name}
use Rattle.reg_core.specs.Request.{has_state_form}
use Rattle.reg_core.specs.WellKept.{has_request_form, is_registered_at, is_held_by, is_size_asked, stands_in}
use Rattle.reg_core.specs.World.{RequestName, place_cmp}
use Rattle.reg_core.specs.declared.ask.Ask.{Ask}
use Rattle.reg_core.specs.declared.ask.Ask.TheVariants.{Renew}
use Rattle.reg_core.specs.declared.ask.RenewalAsk.{RenewalAsk}
use Rattle.reg_core.specs.declared.entry.Registration.{Registration}
use Rattle.reg_core.specs.declared.holding.Holder.{Holder}
use Rattle.reg_core.specs.declared.request.Case.{Case}
use Rattle.reg_core.specs.declared.request.Given.TheVariants as given
use Rattle.reg_core.specs.declared.request.State.{State}
use Rattle.reg_core.specs.declared.request.State.TheVariants.{Approved}
use Rattle.reg_opening.specs.Rows.{lacks_minute}

-- a row that is there is so after a change at a key, or is changed
pub changed_row : {K X : Type 0} {R : K → K → Ordering} → IsKeyOrder R → (m : FinMap R X) (k : K)
    (f : X → X) (q : K) (x : X) → get m q ≡ Some x
    → (get (update m k f) q ≡ Some x)
    ⊎ ((get m k ≡ Some x) × (get (update m k f) q ≡ Some (f x)))
changed_row {R = R} o m k f q x there = by (eq_by_cmp R q k) refl
  where
    by : (b : Bool) → eq_by_cmp R q k ≡ b
        → (get (update m k f) q ≡ Some x)
        ⊎ ((get m k ≡ Some x) × (get (update m k f) q ≡ Some (f x)))
    by true t =
        let here : get m k ≡ Some x = sym (ap (get m) (tied o q k t)) ∙ there in
        inr (
          here,
          get-update o m k f q ∙ ap (λ b. cond b (option_map f (get m k)) (get m q)) t
              ∙ ap (option_map f) here,
        )
    by false t =
        inl (get-update o m k f q ∙ ap (λ b. cond b (option_map f (get m k)) (get m q)) t ∙ there)

-- ---- Minutes

-- a minute leaves what is asked for
asked : (minute : List ℕ) (ask : Ask)
    → (registry_of (ask_with (Some minute) ask) ≡ registry_of ask)
    × ((size : Size) → is_size_asked (ask_with (Some minute) ask) size ≡ is_size_asked ask size)
asked minute (Renew ask) = (refl, λ size. refl)
asked minute _ = (refl, λ size. refl)

-- and what a request stands by
pub named_stands : (entries : FinMap place_cmp Registration) (blocks : FinMap block_cmp Holder)
    (account minute : List ℕ) (ask : Ask) (state : State)
    → stands_in entries blocks account (ask_with (Some minute) ask) state
    ≡ stands_in entries blocks account ask state
named_stands entries blocks account minute ask (Approved (given.Value v)) =
    ap (λ registry. is_registered_at entries account registry v) (asked minute ask).0
named_stands entries blocks account minute ask (Approved (given.Block block)) =
    ap (λ b. b && is_held_by account (get blocks block)) ((asked minute ask).1 block.size)
named_stands entries blocks account minute ask _ = refl

-- a renewal without its minute has its form where it has it with one
renewal_lowered : (minute : List ℕ) (ask : RenewalAsk) (iesg : Option (List ℕ)) → ask.iesg ≡ iesg
    → is_none iesg ≡ true → has_renewal_form (record ask { iesg = Some minute }) ≡ true
    → has_renewal_form ask ≡ true
renewal_lowered minute ask None is lacks form =
    let asked = first_so _ (is_text minute) form in
    ap (λ b. b && has_note_form ask.iesg) asked ∙ ap has_note_form is
renewal_lowered minute ask (Some other) is lacks form = absurd (cc)

ask_lowered : (minute : List ℕ) (ask : Ask) → lacks_minute ask ≡ true
    → has_ask_form (ask_with (Some minute) ask) ≡ true → has_ask_form ask ≡ true
ask_lowered minute (Renew ask) lacks form = renewal_lowered minute ask ask.iesg refl lacks form
ask_lowered minute _ lacks form = form

-- and with one where it has it without
ask_raised : (minute : List ℕ) (ask : Ask) → is_text minute ≡ true → has_ask_form ask ≡ true
    → has_ask_form (ask_with (Some minute) ask) ≡ true
ask_raised minute (Renew ask) text form =
    ap (λ b. b && is_text minute) (first_so _ (has_note_form ask.iesg) form) ∙ text
ask_raised minute _ text form = form

-- a test in the middle gives way to one that follows from it
instead : (a b c d : Bool) → (b ≡ true → c ≡ true) → (a && b && d) ≡ true → (a && c && d) ≡ true
instead false b c d next h = absurd (cc)
instead true false c d next h = absurd (cc)
instead true true c d next h = ap (λ c. c && d) (next refl) ∙ h

pub request_lowered : (name : RequestName) (minute : List ℕ) (case : Case)
    → lacks_minute case.ask ≡ true → has_request_form name (with_minute (Some minute) case) ≡ true
    → has_request_form name case ≡ true
request_lowered name minute case lacks form =
    instead (is_name name.0 && is_name name.1) (has_ask_form (ask_with (Some minute) case.ask))
    (has_ask_form case.ask) (has_state_form case.state) (ask_lowered minute case.ask lacks) form

pub request_raised : (name : RequestName) (minute : List ℕ) (case : Case) → is_text minute ≡ true
    → has_request_form name case ≡ true → has_request_form name (with_minute (Some minute) case) ≡ true
request_raised name minute case text form =
    instead (is_name name.0 && is_name name.1) (has_ask_form case.ask)
    (has_ask_form (ask_with (Some minute) case.ask)) (has_state_form case.state)
    (ask_raised minute case.ask text) form

-- ---- Marks

-- what expires may be held, and so it may be unheld
pub hold_lowered : (held expires : Bool) → expires ≡ true → (not held || expires) ≡ true
hold_lowered true expires h = h
hold_lowered false expires h = refl
