use Rattle.std.proofs.Common.{◌≡◌, refl, sym, ap, ◌∙◌}
use Rattle.std.specs.FinMap.{contains_key}
use Rattle.reg_core.specs.Answer.{by_rule}
use Rattle.reg_core.specs.Rules.{agent_rule}
use Rattle.reg_core.specs.World.{World, Link}
use Rattle.reg_core.specs.declared.command.ApplicantCommand.TheVariants.{SetAgent}
use Rattle.reg_core.specs.declared.told.Told.TheVariants.{Agent}
use Rattle.reg_core.proofs.Fitting.{agent_fits}
use Rattle.reg_registers.specs.Answers.{answer_to_account}
use Rattle.reg_registers.proofs.Decided.{Decides, follows, makes_fitting, performs_decided, performs_declined, the_value}
use Rattle.reg_registers.proofs.Rows.{selected_after}
use Rattle.reg_commands.proofs.agents.set_agent.Given.{Over}
use Rattle.reg_commands.proofs.agents.set_agent.Goals.{After-decide_agent}
use Rattle.reg_commands.proofs.agents.set_agent.Goals as goal

module _ (g : Over) (c : After-decide_agent g) where
  abbrev w : World
  w = g.K.Keeper.world c.is_agent.new.self

  abbrev link : Link
  link = (c.args.caller.now.capability.account, c.args.agent.now)

  -- what was looked up is whether the link is there
  found : g.K.Keeper.Holds c.is_agent.new.self
      → contains_key w.agents link ≡ c.in_ok-there.there
  found h = sym (selected_after c.in_ok-there.ensures h)

  decides : Decides g.K.Keeper.world g.K.Keeper.Holds g.K.Keeper.Sound
      c.args.keeper.now c.is_agent.new.self
      (answer_to_account link.0 (SetAgent link.1 c.args.reads))
      (agent_rule link c.args.reads c.in_ok-there.there)
      (λ decision. Agent link.1 c.args.reads)
  decides = record {
    answered = λ h.
        ap (λ b. by_rule (agent_rule link c.args.reads b)
        (λ decision. Agent link.1 c.args.reads)) (found h);
    fits = λ h kept change made.
        agent_fits w link c.args.reads change kept c.formed.ensures c.formed-2.ensures
        (ap (agent_rule link c.args.reads) (found h) ∙ made);
    same = c.in_ok-there.ensures.same;
    premise = c.in_ok-there.ensures.premise;
  }

pub returns-in_err-decision : goal.returns-in_err-decision
returns-in_err-decision g c =
    performs_declined c.in_err-decision.field-0.0
    (decides g (goal.at.returns-in_err-decision g c).After-decide_agent)
    (sym c.in_err-decision.ensures) c.from_residual-in_err-decision.ensures.1

pub conclude-requires : goal.conclude-requires
conclude-requires g c =
    makes_fitting c.in_ok-decision.decision
    (decides g (goal.at.conclude-requires g c).After-decide_agent)
    (follows _ c.in_ok-decision.decision (sym c.in_ok-decision.ensures))

pub returns : goal.returns
returns g c =
    let concluded = c.in_ok-conclude.ensures in
    performs_decided c.in_ok-decision.decision
    (decides g (goal.at.returns g c).After-decide_agent)
    (follows _ c.in_ok-decision.decision (sym c.in_ok-decision.ensures))
    (the_value (Agent c.args.agent.now c.args.reads) concluded.told refl) concluded.change
