use Rattle.std.proofs.Common.{◌≡◌, Bool, ap, ◌∙◌}
use Rattle.reg_core.specs.Advice.{is_advised}
use Rattle.reg_core.specs.Allowance.{ground_of}
use Rattle.reg_decisions.specs.Ground.{seen}
use Rattle.reg_core.specs.Rules.{approve_rule}
use Rattle.reg_core.specs.View.{published}
use Rattle.reg_core.specs.World.{World}
use Rattle.reg_core.specs.declared.request.Request.{Request}
use Rattle.reg_registers.specs.Decisions.{approval_of}
use Rattle.reg_commands.proofs.Approvals.{approve_read}
use Rattle.reg_registers.proofs.Decided.{finds_decided, finds_denied}
use Rattle.reg_registers.proofs.Rows.{selected_after}
use Rattle.reg_commands.proofs.desk.approval.Given.{Over}
use Rattle.reg_commands.proofs.desk.approval.Goals.{After-decide_approve}
use Rattle.reg_commands.proofs.desk.approval.Goals as goal

module _ (g : Over) (c : After-decide_approve g) where
  abbrev row : Request
  row = c.args.file.now.request

  abbrev advised : Bool
  advised = is_advised c.as_slice-experts.result.now c.as_slice-opinions.result.now

  module _ (h : g.K.Keeper.Holds c.ground_if.new.keeper) where
    abbrev w : World
    w = g.K.Keeper.world c.ground_if.new.keeper

    advice_is : advised ≡ is_advised c.args.file.now.experts c.args.file.now.advice
    advice_is =
        ap (λ experts. is_advised experts c.as_slice-opinions.result.now) c.as_slice-experts.ensures
        ∙ ap (is_advised c.args.file.now.experts) c.as_slice-opinions.ensures

    decides_there : approve_rule (seen c.ground.result) advised (row.account, row.reference) row.ask
        c.args.today row.state
        ≡ approval_of (published w) c.args.file.now c.args.today
    decides_there =
        approve_read (seen c.ground.result) (ground_of (published w) row.ask) advised
        (row.account, row.reference) row.ask c.args.today row.state
        (λ pending.
        c.ground.ensures
        ∙ selected_after c.in_ok-rows.ensures h (c.is_pending.ensures ∙ pending))
        ∙ ap (λ (advised : Bool).
        approve_rule (ground_of (published w) row.ask) advised (row.account, row.reference) row.ask
        c.args.today row.state)
        advice_is

pub returns-in_err-decide_approve : goal.returns-in_err-decide_approve
returns-in_err-decide_approve g c =
    finds_denied c.in_err-decide_approve.field-0.0 c.in_ok-rows.ensures
    (decides_there g (goal.at.returns-in_err-decide_approve g c).After-decide_approve)
    c.in_err-decide_approve.ensures c.from_residual-in_err-decide_approve.ensures.1

pub returns : goal.returns
returns g c =
    finds_decided c.in_ok-decide_approve.field-0 c.in_ok-rows.ensures
    (decides_there g (goal.at.returns g c).After-decide_approve) c.in_ok-decide_approve.ensures
