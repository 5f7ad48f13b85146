use Rattle.std.proofs.Common.{length}
use Rattle.reg_source.proofs.Copying.{IsGoing}
use Rattle.reg_source.proofs.replacement.goes_on.Given as goal

abbrev pub invariant-loop-rest : goal.invariant-loop-rest
invariant-loop-rest g l =
    IsGoing (g.R.Read.remaining l.fn.reader) (g.R.Read.remaining l.reader) l.bytes l.rest

abbrev pub decreases-loop-rest : goal.decreases-loop-rest
decreases-loop-rest g l = length l.rest
