use Rattle.std.proofs.Common.{map, take}
use Rattle.httparse.specs.Spans.{header_bytes}
use Rattle.reg_head.specs.Head.{named}
use Rattle.reg_head.proofs.Named.{next_named}
use Rattle.reg_head.proofs.fields.values_of.Goals as goal

pub loop-header-preserved : goal.loop-header-preserved
loop-header-preserved c =
    let seen = take c.loop-header.header-index c.args.headers.now in
    next_named c.args.name.now c.args.buf.now c.args.headers.now c.loop-header.header-index _ _ c.loop-header-test.true
    (c.with_header-found.ensures (named c.args.name.now (map (header_bytes c.args.buf.now) seen)) c.loop-header.invariant)
