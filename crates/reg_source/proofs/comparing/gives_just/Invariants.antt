use Rattle.std.proofs.Common.{length}
use Rattle.reg_source.proofs.Portioned.{IsSameFront}
use Rattle.reg_source.proofs.comparing.gives_just.Given as goal

abbrev pub invariant-loop-portion : goal.invariant-loop-portion
invariant-loop-portion g l =
    IsSameFront l.fn.bytes l.rest (g.P.Portions.rest l.fn.printer) (g.P.Portions.rest l.printer)

abbrev pub decreases-loop-portion : goal.decreases-loop-portion
decreases-loop-portion g l = length (g.P.Portions.rest l.printer)
