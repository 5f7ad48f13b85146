use Rattle.reg_parse.proofs.SizeWords.{size_named-is}
use Rattle.reg_parse.proofs.bodies.ask.block.size_named.Goals as goal

pub returns : goal.returns
returns c = size_named-is c.args.word.now c.read.result (rw c.as_bytes.ensures.value at c.read.ensures)
