-- Every run from a well kept world ends in one.
use Rattle.std.proofs.Common.{◌≡◌, true, List, [], ◌∷◌, ℕ}
use Rattle.reg_core.proofs.Common.{first_so, second_so, has_command_form, Event, have_forms, step_of}
use Rattle.reg_core.proofs.Common.{WellKept, World, acts_of, applied, carried, stamp_in, with_acts}
use Rattle.reg_core.specs.Laws.{GivesDigests, RunsKeepWell}
use Rattle.reg_core.proofs.Fitting.{due_fits}
use Rattle.reg_core.proofs.Keeping.OtherMaps.{with_journal}
use Rattle.reg_core.proofs.Outcomes.Dues.{each_step}

module _ (digest_of : List ℕ → List ℕ) (digests : GivesDigests digest_of) where
  pub step_keeps_well : (w : World) → WellKept w → (e : Event) → has_command_form e.command ≡ true
      → WellKept (step_of digest_of w e).world
  step_keeps_well w kept e form =
      each_step digest_of w e.caller e.moment e.command
      (λ change. WellKept (carried w e.caller e.moment change)) kept
      (λ change is.
      with_journal (applied w change)
      (due_fits w kept e.caller e.moment is.is_open change is.due (is.form digests form)).1
      (with_acts (acts_of (stamp_in w e.caller e.moment) w change) w.journal))

  pub runs_keep : RunsKeepWell digest_of
  runs_keep w [] kept forms = kept
  runs_keep w (e ∷ events) kept forms =
      let here = step_keeps_well w kept e
      (first_so (has_command_form e.command) (have_forms events) forms) in
      runs_keep (step_of digest_of w e).world events here
      (second_so (has_command_form e.command) (have_forms events) forms)
