use Rattle.std.proofs.Common.{◌≡◌, ℕ, List, Result, sym, ap, ◌∙◌}
use Rattle.std.specs.FinMap.{contains_key}
use Rattle.reg_core.specs.Advice.{is_among}
use Rattle.reg_core.specs.Answer.{by_rule}
use Rattle.reg_core.specs.Request.{case_of}
use Rattle.reg_core.specs.Rules.{assign_rule}
use Rattle.reg_core.specs.Step.{desk_by}
use Rattle.reg_core.specs.World.{World, RequestName}
use Rattle.reg_core.specs.declared.command.ClerkCommand.TheVariants.{AssignExpert}
use Rattle.reg_core.specs.declared.told.Told.TheVariants.{Desk}
use Rattle.reg_core.specs.declared.decide.Decision.{Decision}
use Rattle.reg_core.specs.declared.refusal.Refusal.{Refusal}
use Rattle.reg_core.specs.declared.request.Case.{Case}
use Rattle.reg_core.specs.declared.request.Request.{Request}
use Rattle.reg_core.proofs.Files.{among_experts}
use Rattle.reg_core.proofs.Fitting.{assign_fits}
use Rattle.reg_registers.specs.Answers.{answer_to_clerk}
use Rattle.reg_registers.proofs.Decided.{Decides, makes_found, performs_declined, performs_found}
use Rattle.reg_registers.proofs.Rows.{IsFileOf, answer_about, file_is, selected_after, there}
use Rattle.reg_commands.proofs.desk.assign.Given.{Over}
use Rattle.reg_commands.proofs.desk.assign.Goals.{After-decide_assign}
use Rattle.reg_commands.proofs.desk.assign.Goals as goal

-- the rule over the assignments of a world
abbrev assignment : World → List ℕ → RequestName → Case → Result Decision Refusal
assignment w expert name case =
    assign_rule name expert (contains_key w.queue (name, expert)) case.state

module _ (g : Over) (c : After-decide_assign g) where
  abbrev w : World
  w = g.K.Keeper.world c.file.new.self

  abbrev asked : RequestName
  asked = (c.args.account.now, c.args.reference.now)

  abbrev row : Request
  row = c.in_ok-file-2.file.request

  abbrev name : RequestName
  name = (row.account, row.reference)

  abbrev rule : Result Decision Refusal
  rule =
      assign_rule name c.args.expert.now (is_among c.args.expert.now c.as_slice.result.now)
      row.state

  found : g.K.Keeper.Holds c.file.new.self → IsFileOf w asked c.in_ok-file-2.file
  found h =
      file_is w asked c.in_ok-file-2.file
      (sym c.in_ok-file-2.ensures.ok_part ∙ selected_after c.in_ok-file.ensures h)

  rule_is : g.K.Keeper.Holds c.file.new.self
      → rule ≡ assignment w c.args.expert.now name (case_of row)
  rule_is h =
      ap (λ among. assign_rule name c.args.expert.now among row.state)
      (ap (is_among c.args.expert.now) (c.as_slice.ensures ∙ (found h).experts)
      ∙ among_experts w name c.args.expert.now)

  decides : Decides g.K.Keeper.world g.K.Keeper.Holds g.K.Keeper.Sound
      c.args.keeper.now c.file.new.self
      (answer_to_clerk c.args.caller.now (AssignExpert c.args.account.now c.args.reference.now c.args.expert.now))
      rule (desk_by name (case_of row))
  decides = record {
    answered = λ h.
        answer_about w asked row
        (λ name case. by_rule (assignment w c.args.expert.now name case) (desk_by name case))
        (found h).request
        ∙ ap (λ rule. by_rule rule (desk_by name (case_of row))) (sym (rule_is h));
    fits = λ h kept change made.
        assign_fits w name (case_of row) c.args.expert.now change kept
        (there w asked row (found h).request) c.formed.ensures (sym (rule_is h) ∙ made);
    same = c.in_ok-file.ensures.same;
    premise = c.in_ok-file.ensures.premise;
  }

pub returns-in_err-decision : goal.returns-in_err-decision
returns-in_err-decision g c =
    performs_declined c.in_err-decision.field-0.0
    (decides g (goal.at.returns-in_err-decision g c).After-decide_assign)
    (sym c.in_err-decision.ensures) c.from_residual-in_err-decision.ensures.1

pub conclude_on-requires : goal.conclude_on-requires
conclude_on-requires g c =
    (makes_found c.in_ok-decision.decision
    (decides g (goal.at.conclude_on-requires g c).After-decide_assign)
    (λ h. sym c.in_ok-decision.ensures))

pub returns : goal.returns
returns g c =
    let d = (goal.at.returns g c).After-decide_assign in
    let concluded = c.in_ok-conclude_on.ensures in
    performs_found c.in_ok-decision.decision (decides g d) (λ h. sym c.in_ok-decision.ensures)
    (ap Desk (sym concluded.row))
    concluded.change
