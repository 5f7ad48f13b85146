use Rattle.std.proofs.Common.{arith}
use Rattle.reg_wire.specs.Serving.{AnswersOver}
use Rattle.reg_http.proofs.Meetings.{as_turns, served_then}
use Rattle.reg_http.proofs.Turns.{turns_then}
use Rattle.reg_http.proofs.listener.serve_listener.Goals as goal

pub loop-preserved : goal.loop-preserved
loop-preserved g c =
    let Over = AnswersOver g.K.Keeper.world g.K.Keeper.Holds g.K.Keeper.Sound g.K.Keeper.FAILS in
    record {
      some = omega arith;
      served =
          rw c.count_of-answered.ensures.count
          (served_then Over g.P.Peers.blank c.loop.counter 1 c.loop.answered _ _ _ _ _ _ _ _ _ _ _ _ _
          c.loop.invariant.served c.serve_next-sent.ensures);
      turns =
          rw c.count_of-answered.ensures.count
          (turns_then Over c.loop.counter 1 c.loop.answered _ _ _ _ c.loop.invariant.turns
          (as_turns Over g.P.Peers.blank 1 _ _ _ _ _ _ _ _ _ c.serve_next-sent.ensures));
    }
