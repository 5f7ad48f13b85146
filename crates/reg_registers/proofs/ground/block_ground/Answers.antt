use Rattle.std.proofs.Common.{sym, ap, ◌∙◌}
use Rattle.std.specs.Prelude.{Option, None}
use Rattle.reg_blocks.specs.Block.{SizedPrefix}
use Rattle.reg_core.specs.Allowance.{Ground}
use Rattle.reg_core.proofs.Blocks.{due_published}
use Rattle.reg_registers.proofs.ground.block_ground.Goals as goal

abbrev with_due : Option SizedPrefix → Ground
with_due due = record { table = None; entry = None; least = None; due = due }

-- what is published has the same blocks
pub returns : goal.returns
returns g c = record {
  value = λ h.
      let w = g.K.Keeper.world c.args.keeper.now in
      ap with_due
      (c.in_ok-due.ensures.value h ∙ sym (due_published w c.args.block.now.size));
  same = c.in_ok-due.ensures.same;
  premise = c.in_ok-due.ensures.premise;
  fault = tt;
}
