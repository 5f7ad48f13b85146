use Rattle.reg_wire.proofs.StandSoFar.{stand_so_far}
use Rattle.reg_wire.proofs.laws.requests_stand_so_far.Goals as goal

pub returns : goal.returns
returns g c =
    stand_so_far g.K.Keeper.world g.K.Keeper.Holds g.K.Keeper.Sound g.K.Keeper.FAILS
    c.calls_run_as_the_model.ensures
