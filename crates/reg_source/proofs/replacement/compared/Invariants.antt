use Rattle.std.proofs.Common.{length}
use Rattle.reg_source.specs.Hashed.{FeedsTaken}
use Rattle.reg_source.proofs.Copying.{IsSameSoFar}
use Rattle.reg_source.proofs.Feeding.{taken_none}
use Rattle.reg_source.proofs.replacement.compared.Given as goal

abbrev pub invariant-loop-reader : goal.invariant-loop-reader
invariant-loop-reader g l = record {
  so_far : IsSameSoFar (g.R.Read.remaining l.fn.reader) (g.R.Read.remaining l.reader)
      (g.P.Portions.rest l.fn.bytes) (g.P.Portions.rest l.bytes) l.same;
  fed : FeedsTaken l.fn.hasher l.hasher (g.P.Portions.rest l.fn.bytes) (g.P.Portions.rest l.bytes);
}

abbrev pub decreases-loop-reader : goal.decreases-loop-reader
decreases-loop-reader g l = length (g.P.Portions.rest l.bytes)
