use Rattle.std.proofs.Common.{ap, length, refl, sym, ◌∙◌, ◌≡◌, false}
use Rattle.reg_core.specs.Journal.{with_acts}
use Rattle.reg_core.specs.World.{World, applied}
use Rattle.reg_rows.specs.Changing.{writes_row}
use Rattle.reg_rows.proofs.Joining.{steps_as}
use Rattle.reg_rows.proofs.Journaled.{applied_journal, nothing_applied}
use Rattle.reg_rows.proofs.RegistryRowsSteps.{steps_last}
use Rattle.reg_content.proofs.change.make_with.Goals as goal

pub returns-then-not-writes_row-clause-steps : goal.returns-then-not-writes_row-clause-steps
returns-then-not-writes_row-clause-steps g c =
    let change = c.args.change.now in
    let none : writes_row change ≡ false = sym c.writes_row.ensures ∙ c.if-not-writes_row.true in
    steps_as c.add_acts.ensures.steps (λ w fits. (
      fits.1,
      ap (λ (v : World). record v { journal = with_acts c.args.acts.now w.journal })
          (sym (nothing_applied w change none)),
    ))

pub returns-clause-steps : goal.returns-clause-steps
returns-clause-steps g c =
    let change = c.args.change.now in
    steps_last (steps_as c.in_ok-make.ensures.steps (λ w fits. (fits.0, refl))) c.add_acts-2.result
    c.add_acts-2.ensures.steps (λ w fits. (
      fits.1 ∙ ap length (sym (applied_journal w change)),
      ap (λ journal. record (applied w change) { journal = with_acts c.args.acts.now journal })
          (applied_journal w change),
    ))
