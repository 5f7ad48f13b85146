use Rattle.std.proofs.Common.{sym, ap}
use Rattle.reg_core.specs.Request.{case_of}
use Rattle.reg_core.specs.Rules.{decline_rule}
use Rattle.reg_core.specs.Step.{desk_by}
use Rattle.reg_core.specs.declared.command.ClerkCommand.TheVariants.{Decline}
use Rattle.reg_core.specs.declared.told.Told.TheVariants.{Desk}
use Rattle.reg_core.specs.declared.request.Request.{Request}
use Rattle.reg_core.proofs.Fitting.{decline_fits}
use Rattle.reg_registers.specs.Answers.{answer_to_clerk}
use Rattle.reg_registers.proofs.Decided.{Decides, makes_fitting, performs_denied, performs_decided}
use Rattle.reg_registers.proofs.Requests.{decides_about}
use Rattle.reg_commands.proofs.desk.decline.Given.{Over}
use Rattle.reg_commands.proofs.desk.decline.Goals.{After-decide_decline}
use Rattle.reg_commands.proofs.desk.decline.Goals as goal

module _ (g : Over) (c : After-decide_decline g) where
  abbrev row : Request
  row = c.in_ok-request.request

  decides : Decides g.K.Keeper.world g.K.Keeper.Holds g.K.Keeper.Sound
      c.args.keeper.now c.own_one.new.self
      (answer_to_clerk c.args.caller.now (Decline c.args.account.now c.args.reference.now c.args.reason.now))
      (decline_rule (row.account, row.reference) c.args.reason.now row.state)
      (desk_by (row.account, row.reference) (case_of row))
  decides =
      decides_about (c.args.account.now, c.args.reference.now) row
      (λ name case. decline_rule name c.args.reason.now case.state) desk_by
      c.in_ok-own_one.ensures c.in_ok-request.ensures.ok_part
      (λ w change kept there made.
      decline_fits w (row.account, row.reference) (case_of row) c.args.reason.now change kept
      there c.formed.ensures made)

pub returns-in_err-decision : goal.returns-in_err-decision
returns-in_err-decision g c =
    performs_denied c.in_err-decision.field-0.0
    (decides g (goal.at.returns-in_err-decision g c).After-decide_decline)
    c.in_err-decision.ensures c.from_residual-in_err-decision.ensures.1

pub conclude_on-requires : goal.conclude_on-requires
conclude_on-requires g c =
    (makes_fitting c.in_ok-decision.decision
    (decides g (goal.at.conclude_on-requires g c).After-decide_decline) c.in_ok-decision.ensures)

pub returns : goal.returns
returns g c =
    let d = (goal.at.returns g c).After-decide_decline in
    let concluded = c.in_ok-conclude_on.ensures in
    performs_decided c.in_ok-decision.decision (decides g d) c.in_ok-decision.ensures
    (ap Desk (sym concluded.row))
    concluded.change
