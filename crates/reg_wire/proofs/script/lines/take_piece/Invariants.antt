use Rattle.std.proofs.Common.{◌≡◌, List, ℕ, ◌++◌, length}
use Rattle.reg_wire.specs.Script.LineBuffer.{FromProgress, Progress}
use Rattle.reg_wire.proofs.script.lines.take_piece.Given as goal

-- what was taken of the piece, and what is left
abbrev pub invariant-lines : goal.invariant-lines
invariant-lines g l =
    (taken : List ℕ) × (l.piece ≡ taken ++ l.rest)
    × FromProgress g.A.Responder.Serves l.initial.buffer l.sent l.initial.responder
    (g.W.Write.contents l.initial.writer)
    (λ first had bytes. Progress g.A.Responder.Serves first had (bytes ++ taken) l.buffer l.total
    l.responder (g.W.Write.contents l.writer))

abbrev pub decreases-lines : goal.decreases-lines
decreases-lines g l = length l.rest
