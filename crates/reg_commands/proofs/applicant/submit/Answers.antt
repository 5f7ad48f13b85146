use Rattle.std.proofs.Common.{◌≡◌, sym, ap, ◌∙◌}
use Rattle.std.specs.Prelude.{Option, option_map}
use Rattle.std.specs.FinMap.{get}
use Rattle.std.specs.Option.{option_copied}
use Rattle.reg_core.specs.Allowance.{allowed}
use Rattle.reg_core.specs.Answer.{by_rule}
use Rattle.reg_core.specs.Request.{request_row}
use Rattle.reg_core.specs.Rules.{submit_rule}
use Rattle.reg_core.specs.View.{published}
use Rattle.reg_core.specs.World.{World, RequestName}
use Rattle.reg_core.specs.declared.ask.Ask.{Ask}
use Rattle.reg_core.specs.declared.command.ApplicantCommand.TheVariants.{Submit}
use Rattle.reg_core.specs.declared.request.Request.{Request}
use Rattle.reg_core.proofs.Fitting.{submit_fits}
use Rattle.reg_registers.specs.Answers.{answer_to_account, told_made}
use Rattle.reg_registers.proofs.Decided.{Rules, always, the_value, decides_found, makes_found, performs_found, performs_stopped_at}
use Rattle.reg_registers.proofs.Rows.{selected_after}
use Rattle.reg_commands.proofs.Submissions.{case_looked_up, submission, submission_answered}
use Rattle.reg_commands.proofs.applicant.submit.Given.{Over}
use Rattle.reg_commands.proofs.applicant.submit.Goals.{After-submission}
use Rattle.reg_commands.proofs.applicant.submit.Goals as goal

module _ (g : Over) (c : After-submission g) where
  abbrev old : World
  old = g.K.Keeper.world c.own_one.new.self

  abbrev name : RequestName
  name = (c.args.caller.now.capability.account, c.args.reference.now)

  abbrev ask : Ask
  ask = c.args.ask.now

  abbrev existing : Option Request
  existing = c.in_ok-existing.existing

  -- the request that was looked up is that of the content
  found : g.K.Keeper.Holds c.own_one.new.self
      → existing ≡ option_map (request_row name) (get old.requests name)
  found h = selected_after c.in_ok-existing.ensures h

  rules : Rules g.K.Keeper.world g.K.Keeper.Holds c.own_one.new.self
      (answer_to_account c.args.caller.now.capability.account (Submit c.args.reference.now ask))
      (submission old name ask (option_copied c.as_ref.result))
      (λ decision. told_made name ask existing)
  rules = record {
    answered = λ h.
        submission_answered c.args.caller.now.capability.account c.args.reference.now ask old existing (found h)
        ∙ ap (λ o. by_rule (submission old name ask o) (λ decision. told_made name ask existing))
        (sym c.as_ref.ensures.value);
    fits = λ h kept change made.
        let allowance = allowed (published old) name.0 ask in
        submit_fits old allowance name ask change kept c.request_formed.ensures
        (ap (submit_rule allowance name ask)
        (sym (case_looked_up name _ _ (c.as_ref.ensures.value ∙ found h))) ∙ made);
  }

pub returns-in_err-decision : goal.returns-in_err-decision
returns-in_err-decision g c =
    performs_stopped_at c.in_err-decision.field-0.0
    (rules g (goal.at.returns-in_err-decision g c).After-submission) c.in_ok-existing.ensures
    c.in_err-decision.ensures c.from_residual-in_err-decision.ensures.1

pub conclude-requires : goal.conclude-requires
conclude-requires g c =
    let decision = c.in_ok-decision.decision in
    always c.told_of-told.result
    (makes_found decision
    (decides_found decision (rules g (goal.at.conclude-requires g c).After-submission)
    c.in_ok-existing.ensures c.in_ok-decision.ensures)
    c.in_ok-decision.ensures.value)

pub returns : goal.returns
returns g c =
    let d = (goal.at.returns g c).After-submission in
    let decision = c.in_ok-decision.decision in
    let concluded = c.in_ok-conclude.ensures in
    performs_found decision
    (decides_found decision (rules g d) c.in_ok-existing.ensures c.in_ok-decision.ensures)
    c.in_ok-decision.ensures.value
    (the_value (told_made (name g d) (ask g d) (existing g d)) concluded.told
    c.told_of-told.ensures.told)
    concluded.change
