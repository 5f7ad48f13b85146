use Rattle.std.proofs.lemmas.Result.{err_from_is_err_and}
use Rattle.reg_wire.specs.Script.Answers.{ServesOver}
use Rattle.reg_wire.proofs.Runs.{stops_before}
use Rattle.reg_wire.proofs.script.run.Goals as goal

pub returns-in_err-routes-clause-err : goal.returns-in_err-routes-clause-err
returns-in_err-routes-clause-err g c =
    let p = err_from_is_err_and c.from_residual.result c.from_residual.ensures.1 in
    rw (p.1, p.2)
    (stops_before
    (ServesOver g.K.Keeper.world g.K.Keeper.Holds g.K.Keeper.Sound g.K.Keeper.FAILS) _ _ _)
