use Rattle.std.proofs.Common.{◌≤◌}
use Rattle.reg_http.specs.Listening.{ChangesByTurns}
use Rattle.reg_http.specs.Meeting.{ServesInTurn}
use Rattle.reg_wire.specs.Serving.{AnswersOver}
use Rattle.reg_http.proofs.listener.serve_listener.Given as goal

abbrev pub invariant-loop : goal.invariant-loop
invariant-loop g l = record {
  some : l.answered ≤ l.counter;
  served : ServesInTurn
      (AnswersOver g.K.Keeper.world g.K.Keeper.Holds g.K.Keeper.Sound g.K.Keeper.FAILS)
      g.P.Peers.blank l.counter l.answered (g.P.Peers.coming l.initial.peers) (g.P.Peers.coming l.peers)
      (g.D.Dates.readings l.initial.dates) (g.D.Dates.readings l.dates)
      (g.P.Peers.written l.initial.peers) (g.P.Peers.written l.peers) l.initial.office l.office;
  turns : ChangesByTurns
      (AnswersOver g.K.Keeper.world g.K.Keeper.Holds g.K.Keeper.Sound g.K.Keeper.FAILS) l.counter
      l.answered l.initial.office l.office;
}
