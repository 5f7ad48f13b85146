use Rattle.std.proofs.Common.{◌≡◌, refl, sym, ap, ◌∙◌}
use Rattle.std.specs.FinMap.{contains_key}
use Rattle.reg_core.specs.Answer.{by_rule}
use Rattle.reg_core.specs.Rules.{pool_rule}
use Rattle.reg_core.specs.World.{World}
use Rattle.reg_core.specs.declared.command.ClerkCommand.TheVariants.{AddPool}
use Rattle.reg_core.specs.declared.told.Told.TheVariants.{Pooled}
use Rattle.reg_core.proofs.Fitting.{pool_fits}
use Rattle.reg_registers.specs.Answers.{answer_to_clerk}
use Rattle.reg_registers.proofs.Decided.{Decides, follows, makes_fitting, performs_decided, the_value}
use Rattle.reg_registers.proofs.Rows.{selected_after}
use Rattle.reg_registers.proofs.registers.add_pool.Given.{Over}
use Rattle.reg_registers.proofs.registers.add_pool.Goals.{After-decide_pool}
use Rattle.reg_registers.proofs.registers.add_pool.Goals as goal

module _ (g : Over) (c : After-decide_pool g) where
  abbrev w : World
  w = g.K.Keeper.world c.is_pooled.new.self

  -- what was looked up is whether the pool has the prefix
  found : g.K.Keeper.Holds c.is_pooled.new.self
      → contains_key w.pool c.args.prefix ≡ c.in_ok-there.there
  found h = sym (selected_after c.in_ok-there.ensures h)

  decides : Decides g.K.Keeper.world g.K.Keeper.Holds g.K.Keeper.Sound
      c.args.keeper.now c.is_pooled.new.self
      (answer_to_clerk c.args.caller.now (AddPool c.args.prefix)) (pool_rule c.in_ok-there.there c.args.prefix)
      (λ decision. Pooled c.args.prefix)
  decides = record {
    answered = λ h.
        ap (λ b. by_rule (pool_rule b c.args.prefix) (λ decision. Pooled c.args.prefix)) (found h);
    fits = λ h kept change made.
        pool_fits w c.args.prefix change kept
        (ap (λ b. pool_rule b c.args.prefix) (found h) ∙ made);
    same = c.in_ok-there.ensures.same;
    premise = c.in_ok-there.ensures.premise;
  }

pub conclude-requires : goal.conclude-requires
conclude-requires g c =
    makes_fitting c.in_ok-decision.decision
    (decides g (goal.at.conclude-requires g c).After-decide_pool)
    (follows _ c.in_ok-decision.decision (sym c.in_ok-decision.ensures))

pub returns : goal.returns
returns g c =
    let concluded = c.in_ok-conclude.ensures in
    performs_decided c.in_ok-decision.decision
    (decides g (goal.at.returns g c).After-decide_pool)
    (follows _ c.in_ok-decision.decision (sym c.in_ok-decision.ensures))
    (the_value (Pooled c.args.prefix) concluded.told refl) concluded.change
