use Rattle.std.proofs.Common.{List, ℕ}
use Rattle.std.specs.Io.KnownBytes.{Consumes}
use Rattle.reg_wire.specs.Script.LineBuffer.{Progress}
use Rattle.reg_wire.proofs.script.lines.respond_all.Given as goal

abbrev pub invariant-loop-made : goal.invariant-loop-made
invariant-loop-made g l =
    (bytes : List ℕ) × Consumes (g.R.Read.remaining l.initial.reader)
    (g.R.Read.remaining l.reader) bytes
    × Progress g.A.Responder.Serves l.initial.responder (g.W.Write.contents l.initial.writer)
    bytes l.buffer l.sent l.responder (g.W.Write.contents l.writer)
