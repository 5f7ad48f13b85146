use Rattle.reg_wire.proofs.LineSoFar.{buffered_asks}
use Rattle.reg_wire.proofs.script.line_buffer.LineBuffer.line.Goals as goal

pub returns : goal.returns
returns c line buffered = let asks = buffered_asks line c.args.self.now buffered in cc
