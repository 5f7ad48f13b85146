use Rattle.reg_program.proofs.Results.{went_out}
use Rattle.reg_program.proofs.asking.print.Goals as goal

pub returns-in-Ok-clause-ok : goal.returns-in-Ok-clause-ok
returns-in-Ok-clause-ok g c =
    let contents = g.W.Write.contents in
    went_out c.flush.result (contents c.args.output.now) (contents c.write_all.new.self)
    (contents c.flush.new.output) c.args.bytes.now c.in-Ok.ensures.bytes
    c.flush.ensures.keeps
