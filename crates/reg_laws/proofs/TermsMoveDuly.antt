-- Terms move duly.
use Rattle.std.proofs.Common.{◌≡◌, ℕ, Bool, true, false, not, cond, List, refl, sym, ap, subst, ◌∙◌, inl, inr}
use Rattle.std.specs.Prelude.{Option, Some, IsSome, option_map, ◌⊎◌}
use Rattle.std.specs.FinMap.{get, insert}
use Rattle.reg_core.proofs.Common.{eq_by_cmp, update, tied, get-at_insert, get-update, utc_day}
use Rattle.reg_core.proofs.Common.{status_on, registration_in, with_hold, place_of, WellKept, World}
use Rattle.reg_core.proofs.Common.{Place, place_cmp, applied, carried}
use Rattle.reg_laws.proofs.Types.{Change, Command, Entry}
use Rattle.reg_core.proofs.Common.{place_keys}
use Rattle.reg_laws.proofs.Types.{Registration}
use Rattle.reg_early.specs.declared.term.Status.TheVariants as status
use Rattle.reg_core.specs.EarlyAllocations.{MovesTerm, IsMoved, IsMarked, TermsMoveDuly}
use Rattle.reg_core.specs.declared.change.Change.TheVariants.{GiveValue, SetHold}
use Rattle.reg_core.specs.declared.command.Command.TheVariants.{Clerk}
use Rattle.reg_core.specs.declared.command.ClerkCommand.TheVariants.{Approve, SetHold as SetHoldOf}
use Rattle.reg_core.proofs.Outcomes.Dues.{IsDue, each_step}
use Rattle.reg_laws.proofs.TermsStand.{given_duly, given_moves}

module _ (digest_of : List ℕ → List ℕ) (w : World) (caller : Option (List ℕ)) (moment : ℕ)
    (command : Command) (place : Place) (before : Registration) (kept : WellKept w)
    (stood : get w.entries place ≡ Some before) where
  -- the entry stands, as before or moved
  abbrev MovesIn : World → Type 0
  MovesIn v =
      (now : Registration) × (get v.entries place ≡ Some now)
      × ((now ≡ before) ⊎ (IsMoved w (utc_day moment) command place before now
      ⊎ IsMarked (utc_day moment) command place before now))

  unmoved : MovesIn w
  unmoved = (before, stood, inl refl)

  -- where an entry is given at the place, the command approved its renewal or its permanence
  moved_by : (account reference : List ℕ) (entry : Entry)
      → IsDue digest_of w caller moment command (GiveValue account reference entry)
      → place ≡ place_of entry
      → IsMoved w (utc_day moment) command place before (registration_in entry)
  moved_by account reference entry is same =
      let duly = given_duly w kept (utc_day moment) account reference entry is.due.1 in
      let moves = given_moves w (utc_day moment) account entry duly.ask duly.duly before
      (ap (get w.entries) (sym same) ∙ stood) in
      record {
        reference = reference;
        by = is.by ∙ ap (λ a. Clerk (Approve a reference)) (sym moves.own);
        ask = duly.ask;
        request = ap (λ a. get w.requests (a, reference)) moves.own ∙ duly.request;
        moves =
            subst (λ p. MovesTerm p (utc_day moment) duly.ask before.term entry.term) (sym same)
            moves.term;
        rest = λ i. record {
          label = moves.label i;
          assignee = moves.assignee i;
          term = entry.term;
        };
      }

  given_value : (account reference : List ℕ) (entry : Entry)
      → IsDue digest_of w caller moment command (GiveValue account reference entry)
      → MovesIn (applied w (GiveValue account reference entry))
  given_value account reference entry is = by (eq_by_cmp place_cmp place (place_of entry)) refl
    where
      found : (b : Bool) → eq_by_cmp place_cmp place (place_of entry) ≡ b
          → get (insert w.entries (place_of entry) (registration_in entry)) place
          ≡ cond b (Some (registration_in entry)) (get w.entries place)
      found b t =
          get-at_insert place_keys w.entries (place_of entry) (registration_in entry) place
          ∙ ap (λ b. cond b (Some (registration_in entry)) (get w.entries place)) t

      by : (b : Bool) → eq_by_cmp place_cmp place (place_of entry) ≡ b
          → MovesIn (applied w (GiveValue account reference entry))
      by true t = (
        registration_in entry,
        found true t,
        inr (inl (moved_by account reference entry is (tied place_keys place (place_of entry) t))),
      )
      by false t = (before, found false t ∙ stood, inl refl)

  -- where the entry at the place is marked, the command says so
  marked_by : (name : List ℕ) (value : ℕ) (held : Bool)
      → IsDue digest_of w caller moment command (SetHold name value held)
      → place ≡ (name, value)
      → IsMarked (utc_day moment) command place before (with_hold held before)
  marked_by name value held is same =
      let marks = is.due.1 in
      let there : Some marks.entry ≡ Some before =
      sym marks.is_there ∙ ap (get w.entries) (sym same) ∙ stood in
      let itself : marks.entry ≡ before = cc in
      record {
        held = held;
        by = is.by ∙ ap (λ (p : Place). Clerk (SetHoldOf p.0 p.1 held)) (sym same);
        expires = subst (λ (r : Registration). IsSome r.term.expires) itself marks.expires;
        turned = subst (λ (r : Registration). r.term.held ≡ not held) itself marks.turned;
        stood = subst
            (λ (r : Registration). held ≡ true
            → ¬ (status_on r.term (utc_day moment) ≡ status.Expired)) itself marks.stood;
        rest = refl;
      }

  given_mark : (name : List ℕ) (value : ℕ) (held : Bool)
      → IsDue digest_of w caller moment command (SetHold name value held)
      → MovesIn (applied w (SetHold name value held))
  given_mark name value held is = by (eq_by_cmp place_cmp place (name, value)) refl
    where
      found : (b : Bool) → eq_by_cmp place_cmp place (name, value) ≡ b
          → get (update w.entries (name, value) (with_hold held)) place
          ≡ cond b (option_map (with_hold held) (get w.entries (name, value)))
          (get w.entries place)
      found b t =
          get-update place_keys w.entries (name, value) (with_hold held) place
          ∙ ap (λ b. cond b (option_map (with_hold held) (get w.entries (name, value)))
          (get w.entries place)) t

      by : (b : Bool) → eq_by_cmp place_cmp place (name, value) ≡ b
          → MovesIn (applied w (SetHold name value held))
      by true t =
          let same = tied place_keys place (name, value) t in (
            with_hold held before,
            found true t
                ∙ ap (option_map (with_hold held)) (ap (get w.entries) (sym same) ∙ stood),
            inr (inr (marked_by name value held is same)),
          )
      by false t = (before, found false t ∙ stood, inl refl)

  due_moves : (change : Change) → IsDue digest_of w caller moment command change
      → MovesIn (applied w change)
  due_moves (GiveValue account reference entry) is = given_value account reference entry is
  due_moves (SetHold name value held) is = given_mark name value held is
  due_moves change is = unmoved

pub terms_move : (digest_of : List ℕ → List ℕ) → TermsMoveDuly digest_of
terms_move digest_of w caller moment command place before kept stood =
    each_step digest_of w caller moment command
    (λ change.
    MovesIn digest_of w caller moment command place before kept stood
    (carried w caller moment change))
    (unmoved digest_of w caller moment command place before kept stood)
    (due_moves digest_of w caller moment command place before kept stood)
