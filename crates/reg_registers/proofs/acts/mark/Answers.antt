use Rattle.reg_registers.proofs.Deeds.{marks_own}
use Rattle.reg_registers.proofs.acts.mark.Goals as goal

pub returns : goal.returns
returns g c = record {
  value = λ h.
      marks_own (g.K.Keeper.world c.args.keeper.now) c.in_ok-actor.actor.account c.args.block.now
      c.args.private _ _ (c.in_ok-holding.ensures.value h) c.in_ok-ok_or.ensures.ok_part;
  same = c.in_ok-holding.ensures.same;
  premise = c.in_ok-holding.ensures.premise;
  fault = tt;
}
