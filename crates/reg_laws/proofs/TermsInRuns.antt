-- Terms move duly in a whole run.
use Rattle.std.proofs.Common.{◌≡◌, ℕ, List, [], ◌∷◌, inl, inr, refl, sym, ap, subst, ◌∙◌}
use Rattle.std.specs.Prelude.{All}
use Rattle.std.proofs.lemmas.List.Elements.{All-head, All-tail}
use Rattle.reg_core.proofs.Common.{Event, GivesDigests, Place, World, first_so, have_forms}
use Rattle.reg_core.proofs.Common.{has_command_form, held_term, second_so, step_of, with_hold}
use Rattle.reg_core.proofs.Keeping.RunsKeepWell.{step_keeps_well}
use Rattle.reg_laws.proofs.TermsMoveDuly.{terms_move}
use Rattle.reg_laws.proofs.Types.{Registration}
use Rattle.reg_laws.specs.TermsInRuns.{ApprovesNoneOf, MovesBy, TermsMoveDulyInRuns}

-- it is the same entry, but for a clerk's mark
abbrev IsBut : Registration → Registration → Type 0
IsBut before now = now ≡ record before { term = held_term now.term.held before.term }

-- so it is after an event that approves no request of its assignee
but_by : (w : World) (event : Event) (place : Place) (before now : Registration)
    → MovesBy w event place before now → ApprovesNoneOf before.assignee event → IsBut before now
but_by w event place before now (inl same) none = same ∙ ap but (sym same)
  where
    but : Registration → Registration
    but of = record before { term = held_term of.term.held before.term }
but_by w event place before now (inr (inl moved)) none = absurd (none moved.reference moved.by)
but_by w event place before now (inr (inr marked)) none =
    marked.rest
    ∙ ap (λ held. with_hold held before) (sym (ap (λ (r : Registration). r.term.held) marked.rest))

-- and after two
but_on : (a b c : Registration) → IsBut a b → IsBut b c → IsBut a c
but_on a b c first then = then ∙ (λ i. record (first i) { term = held_term c.term.held (first i).term })

module _ (digest_of : List ℕ → List ℕ) (digests : GivesDigests digest_of) where
  pub run_moves : TermsMoveDulyInRuns digest_of
  run_moves w [] place before kept forms stood = (before, stood, refl, λ none. refl)
  run_moves w (e ∷ events) place before kept forms stood =
      let formed = first_so (has_command_form e.command) (have_forms events) forms in
      let more = second_so (has_command_form e.command) (have_forms events) forms in
      let one = terms_move digest_of w e.caller e.moment e.command place before kept stood in
      let rest =
      run_moves (step_of digest_of w e).world events place one.0
      (step_keeps_well digest_of digests w kept e formed) more one.1 in (
        rest.0,
        rest.1,
        (one.0, one.2, one.1, rest.2),
        λ none.
            let first = but_by w e place before one.0 one.2
            (All-head (ApprovesNoneOf before.assignee) e events none) in
            but_on before one.0 rest.0 first (rest.3 (none_of one.0 first none)),
      )
    where
      -- the assignee is the same
      none_of : (then : Registration) → IsBut before then
          → All (ApprovesNoneOf before.assignee) (e ∷ events) → All (ApprovesNoneOf then.assignee) events
      none_of then is none =
          let same : before.assignee ≡ then.assignee = sym (ap (λ (r : Registration). r.assignee) is) in
          subst (λ a. All (ApprovesNoneOf a) events) same
          (All-tail (ApprovesNoneOf before.assignee) e events none)
