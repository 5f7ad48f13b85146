-- The times of requests after a change: those that it is not about keep theirs.
use Rattle.std.proofs.Common.{◌≡◌, ℕ, Bool, true, false, cond, not, ◌&&◌, List, ◌∷◌, refl, sym, ap, ◌∙◌}
use Rattle.std.specs.Prelude.{Option, Some, None, find, option_map, option_and_then, if◌then◌else◌}
use Rattle.std.specs.FinMap.{get}
use Rattle.reg_core.proofs.Common.{eq_by_cmp, both_ways, not-true, second_so, contains_key, same_at}
use Rattle.reg_core.proofs.Common.{get-select, get-at_insert, get-update, get-inserted, get-updated, tied}
use Rattle.reg_core.proofs.Common.{only_if, same_text, same_text-itself, is_name, is_pending}
use Rattle.reg_core.proofs.Common.{same_name, name_keys, others_after_insert, others_after_update}
use Rattle.reg_core.proofs.Common.{act_by, carried, stamp_in, decides, last_moment}
use Rattle.reg_core.proofs.Common.{submits, times_of, times_by, Times, WellKept, World, RequestName}
use Rattle.reg_core.proofs.Common.{name_cmp, in_state, pending}
use Rattle.reg_laws.proofs.Types.{Act, Ask, Case, Withdrawn}
use Rattle.reg_core.proofs.Files.{same_name-is, same_name-itself}
use Rattle.reg_core.specs.declared.change.Change.TheVariants.{Submit, Close}
use Rattle.reg_core.specs.declared.journal.Deed.TheVariants as did

-- ---- One act more

abbrev moment_of : Act → Option ℕ
moment_of act = act.stamp.moment

abbrev pub times_at : Option ℕ → Option ℕ → Times
times_at submitted decided = record { submitted = submitted; decided = decided }

-- an act that is not about a request leaves its times
pub unaffected : (act : Act) (journal : List Act) (name : RequestName)
    → submits name act.deed ≡ false → decides name act.deed ≡ false
    → (case : Case) → times_of (act ∷ journal) name case ≡ times_of journal name case
unaffected act journal name s d case = λ i. record {
  submitted =
      option_and_then moment_of
      (cond (s i) (Some act) (find (λ (a : Act). submits name a.deed) journal));
  decided =
      if is_pending case.state then None
      else option_and_then moment_of
      (cond (d i) (Some act) (find (λ (a : Act). decides name a.deed) journal));
}

-- ---- The times of some applicants' requests

abbrev pub chosen : (List ℕ → Bool) → World → RequestName → Case → Option Times
chosen of w name case = only_if (of name.0) (times_of w.journal name case)

nothing : (f : Case → Times) (existing : Option Case)
    → option_and_then (λ case. only_if false (f case)) existing ≡ None
nothing f None = refl
nothing f (Some case) = refl

-- what a request has and when is as before
pub record IsStill (w x : World) (name : RequestName) : Type 0 where
  pub row : get x.requests name ≡ get w.requests name
  pub times : (case : Case) → times_of x.journal name case ≡ times_of w.journal name case

module _ (of : List ℕ → Bool) (w x : World) where
  pub still_at : (name : RequestName) → IsStill w x name
      → get (times_by of x) name ≡ get (times_by of w) name
  still_at name still =
      get-select name_keys (chosen of x) x.requests name
      ∙ (λ i. option_and_then (λ case. only_if (of name.0) (still.times case i)) (still.row i))
      ∙ sym (get-select name_keys (chosen of w) w.requests name)

  -- where that is so of each of theirs, their times are the same
  pub still_by : ((name : RequestName) → of name.0 ≡ true → IsStill w x name)
      → times_by of x ≡ times_by of w
  still_by each = same_at name_keys _ _ (λ name. by name (of name.0) refl)
    where
      none : (v : World) (name : RequestName) → of name.0 ≡ false → get (times_by of v) name ≡ None
      none v name other =
          get-select name_keys (chosen of v) v.requests name
          ∙ ap (λ b. option_and_then (λ case. only_if b (times_of v.journal name case))
          (get v.requests name)) other
          ∙ nothing (times_of v.journal name) (get v.requests name)

      by : (name : RequestName) (b : Bool) → of name.0 ≡ b
          → get (times_by of x) name ≡ get (times_by of w) name
      by name true t = still_at name (each name t)
      by name false t = none x name t ∙ sym (none w name t)

-- two pairs of worlds that agree before on all, and after on one and on those that are still
pub alike_after : (of : List ℕ → Bool) (w v x y : World) (name : RequestName)
    → times_by of w ≡ times_by of v
    → ((other : RequestName) → same_name name other ≡ false → IsStill w x other)
    → ((other : RequestName) → same_name name other ≡ false → IsStill v y other)
    → get (times_by of x) name ≡ get (times_by of y) name
    → times_by of x ≡ times_by of y
alike_after of w v x y name alike in_x in_y here =
    same_at name_keys _ _ (λ other. by other (same_name name other) refl)
  where
    by : (other : RequestName) (b : Bool) → same_name name other ≡ b
        → get (times_by of x) other ≡ get (times_by of y) other
    by other true t =
        let is = same_name-is name other t in
        ap (get (times_by of x)) (sym is) ∙ here ∙ ap (get (times_by of y)) is
    by other false t =
        still_at of w x other (in_x other t) ∙ ap (λ m. get m other) alike
        ∙ sym (still_at of v y other (in_y other t))

-- ---- An own request

module _ (account reference : List ℕ) (caller : Option (List ℕ)) (moment : ℕ) where
  abbrev pub name : RequestName
  name = (account, reference)

  abbrev pub own : List ℕ → Bool
  own applicant = same_text applicant account

  -- those whose agent the account is
  abbrev pub principals : World → List ℕ → Bool
  principals w applicant = contains_key w.agents (applicant, account)

  -- at another name
  other_name : (other : RequestName) → same_name name other ≡ false
      → eq_by_cmp name_cmp other name ≡ false
  other_name other apart = by (eq_by_cmp name_cmp other name) refl
    where
      by : (b : Bool) → eq_by_cmp name_cmp other name ≡ b → b ≡ false
      by true t =
          absurd (both_ways (same_name name other) apart
          (ap (same_name name) (tied name_keys other name t) ∙ same_name-itself name))
      by false t = refl

  -- an applicant whose agent the account is, is another one
  principal_apart : (w : World) → WellKept w → (other : RequestName)
      → principals w other.0 ≡ true → same_text account other.0 ≡ false
  principal_apart w kept other t =
      not-true (same_text account other.0)
      (second_so (is_name other.0 && is_name account) (not (same_text account other.0))
      (kept.agents (other.0, account) t))

  -- ---- It comes

  abbrev pub submitted_in : Ask → World → World
  submitted_in ask w = carried w caller moment (Some (Submit account reference ask))

  abbrev came : World → Act
  came w = act_by (stamp_in w caller moment) (did.Submit account reference)

  came_still : (ask : Ask) (w : World) (other : RequestName) → same_name name other ≡ false
      → IsStill w (submitted_in ask w) other
  came_still ask w other apart = record {
    row =
        get-at_insert name_keys w.requests name (pending ask) other
        ∙ ap (λ b. cond b (Some (pending ask)) (get w.requests other)) (other_name other apart);
    times = unaffected (came w) w.journal other apart refl;
  }

  pub came_here : (ask : Ask) (w : World)
      → get (times_by own (submitted_in ask w)) name
      ≡ Some (times_at (Some moment) None)
  came_here ask w =
      get-select name_keys (chosen own (submitted_in ask w)) (submitted_in ask w).requests name
      ∙ ap (option_and_then (chosen own (submitted_in ask w) name))
      (get-inserted name_keys w.requests name (pending ask))
      ∙ (λ i. only_if (same_text-itself account i)
      (times_at
      (option_and_then moment_of
      (cond (same_name-itself name i) (Some (came w))
      (find (λ (a : Act). submits name a.deed) w.journal)))
      None))

  pub own_submitted : (ask : Ask) (w v : World) → times_by own w ≡ times_by own v
      → times_by own (submitted_in ask w) ≡ times_by own (submitted_in ask v)
  own_submitted ask w v alike =
      alike_after own w v (submitted_in ask w) (submitted_in ask v) name alike
      (came_still ask w) (came_still ask v) (came_here ask w ∙ sym (came_here ask v))

  pub principals_submitted : (ask : Ask) (w : World) → WellKept w
      → times_by (principals w) (submitted_in ask w) ≡ times_by (principals w) w
  principals_submitted ask w kept =
      still_by (principals w) w (submitted_in ask w) (λ other t.
      let apart = principal_apart w kept other t in
      record {
        row = others_after_insert account reference w.requests (pending ask) other apart;
        times =
            unaffected (came w) w.journal other
            (ap (λ b. b && same_text reference other.1) apart) refl;
      })

  -- ---- It is withdrawn

  abbrev pub withdrawn_in : World → World
  withdrawn_in w = carried w caller moment (Some (Close account reference Withdrawn))

  abbrev went : World → Act
  went w = act_by (stamp_in w caller moment) (did.Withdraw account reference)

  went_still : (w : World) (other : RequestName) → same_name name other ≡ false
      → IsStill w (withdrawn_in w) other
  went_still w other apart = record {
    row =
        get-update name_keys w.requests name (in_state Withdrawn) other
        ∙ ap (λ b. cond b (option_map (in_state Withdrawn) (get w.requests name))
        (get w.requests other)) (other_name other apart);
    times = unaffected (went w) w.journal other refl apart;
  }

  went_here : (w : World) (case : Case) → get w.requests name ≡ Some case
      → get (times_by own (withdrawn_in w)) name
      ≡ Some (times_at (last_moment (submits name) w.journal) (Some moment))
  went_here w case is_there =
      get-select name_keys (chosen own (withdrawn_in w)) (withdrawn_in w).requests name
      ∙ ap (option_and_then (chosen own (withdrawn_in w) name))
      (get-updated name_keys w.requests name (in_state Withdrawn)
      ∙ ap (option_map (in_state Withdrawn)) is_there)
      ∙ (λ i. only_if (same_text-itself account i)
      (times_at (last_moment (submits name) w.journal)
      (option_and_then moment_of
      (cond (same_name-itself name i) (Some (went w))
      (find (λ (a : Act). decides name a.deed) w.journal)))))

  -- when it came is shown before
  shown_at : (w : World) (case : Case) → get w.requests name ≡ Some case
      → get (times_by own w) name ≡ Some (times_of w.journal name case)
  shown_at w case is_there =
      get-select name_keys (chosen own w) w.requests name
      ∙ ap (option_and_then (chosen own w name)) is_there
      ∙ ap (λ b. only_if b (times_of w.journal name case)) (same_text-itself account)

  abbrev came_at : Option Times → Option ℕ
  came_at None = None
  came_at (Some times) = times.submitted

  pub own_withdrawn : (w v : World) (case : Case) → get w.requests name ≡ Some case
      → get v.requests name ≡ Some case → times_by own w ≡ times_by own v
      → times_by own (withdrawn_in w) ≡ times_by own (withdrawn_in v)
  own_withdrawn w v case in_w in_v alike =
      let same : last_moment (submits name) w.journal ≡ last_moment (submits name) v.journal =
      ap came_at (sym (shown_at w case in_w) ∙ ap (λ m. get m name) alike ∙ shown_at v case in_v) in
      alike_after own w v (withdrawn_in w) (withdrawn_in v) name alike (went_still w) (went_still v)
      (went_here w case in_w
      ∙ ap (λ submitted. Some (times_at submitted (Some moment))) same
      ∙ sym (went_here v case in_v))

  pub principals_withdrawn : (w : World) → WellKept w
      → times_by (principals w) (withdrawn_in w) ≡ times_by (principals w) w
  principals_withdrawn w kept =
      still_by (principals w) w (withdrawn_in w) (λ other t.
      let apart = principal_apart w kept other t in
      record {
        row = others_after_update account reference w.requests (in_state Withdrawn) other apart;
        times =
            unaffected (went w) w.journal other refl
            (ap (λ b. b && same_text reference other.1) apart);
      })
