use Rattle.std.proofs.Common.{IsTrue, rules}
use Rattle.reg_source.proofs.Copying.{going_more}
use Rattle.reg_source.proofs.replacement.goes_on.Goals as goal

pub loop-rest-preserved : goal.loop-rest-preserved
loop-rest-preserved g c =
    let remaining = g.R.Read.remaining in
    let is : IsTrue c.gives.result = search rules in
    going_more (remaining c.args.reader.now) (remaining c.loop-rest.reader)
    (remaining c.gives.new.reader) c.args.bytes.now c.loop-rest.rest.now c.split_at.result.1.now
    c.split_at.result.0.now c.loop-rest.invariant (c.gives.ensures is) c.split_at.ensures.by_index.0
