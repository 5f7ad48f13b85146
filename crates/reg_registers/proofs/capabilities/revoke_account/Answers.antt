use Rattle.std.proofs.Common.{◌≡◌, List, sym, ap, ◌∙◌}
use Rattle.std.specs.Prelude.{filter}
use Rattle.reg_core.specs.Answer.{by_rule}
use Rattle.reg_core.specs.CapRows.{is_of, caps_that}
use Rattle.reg_core.specs.Rules.{revoke_account_rule}
use Rattle.reg_core.specs.World.{World}
use Rattle.reg_core.specs.declared.capability.CapRow.{CapRow}
use Rattle.reg_core.specs.declared.command.ClerkCommand.TheVariants.{RevokeAccount}
use Rattle.reg_core.specs.declared.told.Told.TheVariants.{Capabilities}
use Rattle.reg_core.proofs.Fitting.{revoke_account_fits}
use Rattle.reg_registers.specs.Answers.{answer_to_clerk}
use Rattle.reg_registers.proofs.Decided.{Decides, makes_fitting, performs_decided, performs_denied, the_value}
use Rattle.reg_registers.proofs.Rows.{selected_after}
use Rattle.reg_registers.proofs.capabilities.revoke_account.Given.{Over}
use Rattle.reg_registers.proofs.capabilities.revoke_account.Goals.{After-decide_revoke_account}
use Rattle.reg_registers.proofs.capabilities.revoke_account.Goals as goal

module _ (g : Over) (c : After-decide_revoke_account g) where
  abbrev w : World
  w = g.K.Keeper.world c.caps.new.self

  -- those of the account
  abbrev rows : List CapRow
  rows = c.as_slice.result.now

  chosen : g.K.Keeper.Holds c.caps.new.self
      → rows ≡ caps_that (is_of c.args.account.now) w.caps
  chosen h =
      c.as_slice.ensures.value ∙ c.those_of-rows.ensures
      ∙ ap (filter (is_of c.args.account.now))
      (c.into_vec.ensures ∙ selected_after c.in_ok-caps.ensures h)

  decides : Decides g.K.Keeper.world g.K.Keeper.Holds g.K.Keeper.Sound
      c.args.keeper.now c.caps.new.self
      (answer_to_clerk c.args.caller.now (RevokeAccount c.args.account.now))
      (revoke_account_rule c.args.caller.now.digest rows) (λ decision. Capabilities rows)
  decides = record {
    answered = λ h.
        ap (λ (rows : List CapRow).
        by_rule (revoke_account_rule c.args.caller.now.digest rows) (λ decision. Capabilities rows))
        (sym (chosen h));
    fits = λ h kept change made.
        revoke_account_fits w c.args.caller.now.digest rows change kept made;
    same = c.in_ok-caps.ensures.same;
    premise = c.in_ok-caps.ensures.premise;
  }

pub returns-in_err-decision : goal.returns-in_err-decision
returns-in_err-decision g c =
    performs_denied c.in_err-decision.field-0.0
    (decides g (goal.at.returns-in_err-decision g c).After-decide_revoke_account)
    c.in_err-decision.ensures c.from_residual-in_err-decision.ensures.1

pub conclude-requires : goal.conclude-requires
conclude-requires g c =
    makes_fitting c.in_ok-decision.decision
    (decides g (goal.at.conclude-requires g c).After-decide_revoke_account) c.in_ok-decision.ensures

pub returns : goal.returns
returns g c =
    let concluded = c.in_ok-conclude.ensures in
    performs_decided c.in_ok-decision.decision
    (decides g (goal.at.returns g c).After-decide_revoke_account) c.in_ok-decision.ensures
    (the_value (Capabilities c.as_slice.result.now) concluded.told
    (ap (λ (rows : List CapRow). Capabilities rows)
    (c.from_vec.ensures ∙ sym c.as_slice.ensures.value)))
    concluded.change
