use Rattle.reg_wire.proofs.SoFar.{stand_so_far}
use Rattle.reg_wire.proofs.script.laws.lines_stand_so_far.Goals as goal

pub returns : goal.returns
returns g c = stand_so_far g.K.Keeper.world g.K.Keeper.Holds g.K.Keeper.Sound g.K.Keeper.FAILS
