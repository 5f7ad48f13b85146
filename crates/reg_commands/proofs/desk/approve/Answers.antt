use Rattle.std.proofs.Common.{◌≡◌, ℕ, Result, sym, ap, ◌∙◌}
use Rattle.reg_core.specs.Advice.{is_advised}
use Rattle.reg_core.specs.Allowance.{ground_of}
use Rattle.reg_core.specs.Answer.{by_rule}
use Rattle.reg_core.specs.File.{experts_of, was_advised}
use Rattle.reg_core.specs.Request.{case_of}
use Rattle.reg_core.specs.Rules.{approve_rule}
use Rattle.reg_core.specs.Step.{desk_by}
use Rattle.reg_core.specs.View.{published}
use Rattle.reg_core.specs.World.{World, RequestName}
use Rattle.reg_core.specs.declared.command.ClerkCommand.TheVariants.{Approve}
use Rattle.reg_core.specs.declared.told.Told.TheVariants.{Desk}
use Rattle.reg_core.specs.declared.decide.Decision.{Decision}
use Rattle.reg_core.specs.declared.case_file.CaseFile.{CaseFile}
use Rattle.reg_core.specs.declared.refusal.Refusal.{Refusal}
use Rattle.reg_core.specs.declared.request.Case.{Case}
use Rattle.reg_core.specs.declared.request.Request.{Request}
use Rattle.reg_core.proofs.Fitting.{approve_fits}
use Rattle.reg_registers.specs.Answers.{answer_to_clerk}
use Rattle.reg_registers.specs.Decisions.{approval_of}
use Rattle.reg_registers.proofs.Decided.{Rules, decides_found, makes_found, performs_found, performs_stopped_at}
use Rattle.reg_registers.proofs.Rows.{IsFileOf, answer_about, file_is, selected_after, there}
use Rattle.reg_commands.proofs.desk.approve.Given.{Over}
use Rattle.reg_commands.proofs.desk.approve.Goals.{After-approval}
use Rattle.reg_commands.proofs.desk.approve.Goals as goal

-- the rule over the published rows of a world, and over the advice on the request
abbrev approval : World → ℕ → RequestName → Case → Result Decision Refusal
approval w today name case =
    approve_rule (ground_of (published w) case.ask) (was_advised w name) name case.ask today
    case.state

-- of the request's file it is decided so
approval_is : (w : World) (name : RequestName) (file : CaseFile) (today : ℕ) → IsFileOf w name file
    → approval_of (published w) file today
    ≡ approval w today (file.request.account, file.request.reference) (case_of file.request)
approval_is w name file today is =
    let row = file.request in
    let about : RequestName = (row.account, row.reference) in
    ap (λ advised. approve_rule (ground_of (published w) row.ask) advised about row.ask today row.state)
    (ap (λ experts. is_advised experts file.advice) is.experts
    ∙ ap (is_advised (experts_of w about)) is.advice)

module _ (g : Over) (c : After-approval g) where
  abbrev old : World
  old = g.K.Keeper.world c.file.new.self

  abbrev asked : RequestName
  asked = (c.args.account.now, c.args.reference.now)

  abbrev found : CaseFile
  found = c.in_ok-file-2.file

  abbrev row : Request
  row = found.request

  abbrev name : RequestName
  name = (row.account, row.reference)

  is_file : g.K.Keeper.Holds c.file.new.self → IsFileOf old asked found
  is_file h =
      file_is old asked found
      (sym c.in_ok-file-2.ensures.ok_part ∙ selected_after c.in_ok-file.ensures h)

  rules : Rules g.K.Keeper.world g.K.Keeper.Holds c.file.new.self
      (answer_to_clerk c.args.caller.now (Approve c.args.account.now c.args.reference.now))
      (approval_of (published old) found c.args.caller.now.day) (desk_by name (case_of row))
  rules = record {
    answered = λ h.
        answer_about old asked row
        (λ name case. by_rule (approval old c.args.caller.now.day name case) (desk_by name case))
        (is_file h).request
        ∙ ap (λ rule. by_rule rule (desk_by name (case_of row)))
        (sym (approval_is old asked found c.args.caller.now.day (is_file h)));
    fits = λ h kept change made.
        approve_fits old (was_advised old name) name (case_of row) c.args.caller.now.day change kept
        (there old asked row (is_file h).request) c.formed.ensures
        (sym (approval_is old asked found c.args.caller.now.day (is_file h)) ∙ made);
  }

pub returns-in_err-decision : goal.returns-in_err-decision
returns-in_err-decision g c =
    performs_stopped_at c.in_err-decision.field-0.0
    (rules g (goal.at.returns-in_err-decision g c).After-approval) c.in_ok-file.ensures
    c.in_err-decision.ensures c.from_residual-in_err-decision.ensures.1

pub conclude_on-requires : goal.conclude_on-requires
conclude_on-requires g c =
    let decision = c.in_ok-decision.decision in
    (makes_found decision
    (decides_found decision (rules g (goal.at.conclude_on-requires g c).After-approval)
    c.in_ok-file.ensures c.in_ok-decision.ensures)
    c.in_ok-decision.ensures.value)

pub returns : goal.returns
returns g c =
    let d = (goal.at.returns g c).After-approval in
    let decision = c.in_ok-decision.decision in
    let concluded = c.in_ok-conclude_on.ensures in
    performs_found decision
    (decides_found decision (rules g d) c.in_ok-file.ensures c.in_ok-decision.ensures)
    c.in_ok-decision.ensures.value
    (ap Desk (sym concluded.row))
    concluded.change
