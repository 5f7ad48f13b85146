use Rattle.std.proofs.Common.{sym, ap}
use Rattle.reg_core.specs.Answer.{case_by, own_row}
use Rattle.reg_core.specs.Request.{case_of}
use Rattle.reg_core.specs.Rules.{withdraw_rule}
use Rattle.reg_core.specs.declared.command.ApplicantCommand.TheVariants.{Withdraw}
use Rattle.reg_core.specs.declared.told.Told.TheVariants.{Row}
use Rattle.reg_core.specs.declared.request.Request.{Request}
use Rattle.reg_core.proofs.Fitting.{withdraw_fits}
use Rattle.reg_registers.specs.Answers.{answer_to_account}
use Rattle.reg_registers.proofs.Decided.{Decides, makes_found, performs_declined, performs_found}
use Rattle.reg_registers.proofs.Requests.{decides_about}
use Rattle.reg_commands.proofs.applicant.withdraw.Given.{Over}
use Rattle.reg_commands.proofs.applicant.withdraw.Goals.{After-decide_withdraw}
use Rattle.reg_commands.proofs.applicant.withdraw.Goals as goal

module _ (g : Over) (c : After-decide_withdraw g) where
  abbrev row : Request
  row = c.in_ok-request.request

  decides : Decides g.K.Keeper.world g.K.Keeper.Holds g.K.Keeper.Sound
      c.args.keeper.now c.own_one.new.self
      (answer_to_account c.args.caller.now.capability.account (Withdraw c.args.reference.now))
      (withdraw_rule (row.account, row.reference) row.state)
      (λ decision. own_row (row.account, row.reference) (case_by decision (case_of row)))
  decides =
      decides_about (c.args.caller.now.capability.account, c.args.reference.now) row
      (λ name case. withdraw_rule name case.state)
      (λ name case decision. own_row name (case_by decision case))
      c.in_ok-own_one.ensures c.in_ok-request.ensures.ok_part
      (λ w change kept. withdraw_fits w (row.account, row.reference) (case_of row) change kept)

pub returns-in_err-decision : goal.returns-in_err-decision
returns-in_err-decision g c =
    performs_declined c.in_err-decision.field-0.0
    (decides g (goal.at.returns-in_err-decision g c).After-decide_withdraw)
    (sym c.in_err-decision.ensures) c.from_residual-in_err-decision.ensures.1

pub conclude_on-requires : goal.conclude_on-requires
conclude_on-requires g c =
    (makes_found c.in_ok-decision.decision
    (decides g (goal.at.conclude_on-requires g c).After-decide_withdraw)
    (λ h. sym c.in_ok-decision.ensures))

pub returns : goal.returns
returns g c =
    let d = (goal.at.returns g c).After-decide_withdraw in
    let concluded = c.in_ok-conclude_on.ensures in
    performs_found c.in_ok-decision.decision (decides g d) (λ h. sym c.in_ok-decision.ensures)
    (ap Row (sym concluded.row))
    concluded.change
