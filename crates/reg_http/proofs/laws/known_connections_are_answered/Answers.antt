use Rattle.reg_http.proofs.KnownOnes.{known_answered}
use Rattle.reg_http.proofs.laws.known_connections_are_answered.Goals as goal

pub returns : goal.returns
returns g c =
    known_answered c.readers_ask_by_all_their_bytes.ensures c.calls_run_as_the_model.ensures
    g.K.Keeper.world g.K.Keeper.Holds g.K.Keeper.Sound g.K.Keeper.FAILS
