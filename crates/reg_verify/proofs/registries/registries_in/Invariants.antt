use Rattle.reg_verify.specs.Verifying.{AreFactsOfPages, Finds}
use Rattle.reg_verify.proofs.registries.registries_in.Given as goal

abbrev pub invariant-loop-name : goal.invariant-loop-name
invariant-loop-name g l =
    AreFactsOfPages (Finds g.F.Reads.Tells g.F.Reads.held l.folder) l.facts.items
