use Rattle.std.proofs.Common.{arith, length, length-take, length-drop, drop, ◌-◌}
use Rattle.reg_wire.proofs.Sent.{sent_more}
use Rattle.reg_wire.proofs.sending.send.Goals as goal

pub loop-at-preserved : goal.loop-at-preserved
loop-at-preserved g c = record {
  bound = omega (
    arith,
    c.in-Ok.ensures.bound,
    length-take (length c.args.bytes.now - c.loop-at.at) (drop c.loop-at.at c.args.bytes.now),
    length-drop c.loop-at.at c.args.bytes.now,
  );
  sent = sent_more _ _ _ c.args.bytes.now c.loop-at.at c.in-Ok.n c.loop-at.invariant.sent
      c.in-Ok.ensures.bytes;
}
