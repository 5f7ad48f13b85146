use Rattle.std.proofs.Common.{◌+◌, arith}
use Rattle.reg_program.proofs.Taken.{all_below}
use Rattle.reg_program.proofs.inputs.up_to.Goals as goal

pub returns-in-Ok-clause-all : goal.returns-in-Ok-clause-all
returns-in-Ok-clause-all g c =
    all_below (g.R.Read.remaining c.args.reader.now) (c.args.most + 1) c.read_to_end.new.buf.items
    (omega (arith, c.if-len-most.true, c.len.ensures))
    (rw (c.take-limited.ensures.limit, c.take-limited.ensures.inner, c.new-bytes.ensures.items)
    at c.in-Ok.ensures.bytes)
