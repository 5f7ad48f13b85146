use Rattle.std.proofs.Common.{map, take}
use Rattle.httparse.specs.Spans.{header_bytes}
use Rattle.reg_head.specs.Head.{named}
use Rattle.reg_head.specs.Found.{IsFieldFound}
use Rattle.reg_head.proofs.fields.values_of.Given as goal

abbrev pub invariant-loop-header : goal.invariant-loop-header
invariant-loop-header l = IsFieldFound l.buf (named l.name (map (header_bytes l.buf) (take l.header-index l.headers))) l.found
