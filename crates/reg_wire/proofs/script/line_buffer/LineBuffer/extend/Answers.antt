use Rattle.std.proofs.Common.{arith}
use Rattle.reg_wire.proofs.LineSoFar.{buffered_more}
use Rattle.reg_wire.proofs.script.line_buffer.LineBuffer.extend.Goals as goal

pub returns : goal.returns
returns c =
    rw c.self.view_is at
    (buffered_more c.extend_from_slice.result c.self.inside.bytes.items _ c.args.more.now
    c.saturating_sub-room.result c.min-kept.result
    (omega (arith, c.saturating_sub-room.ensures, c.len.ensures)) c.min-kept.ensures
    c.extend_from_slice.ensures.items)
