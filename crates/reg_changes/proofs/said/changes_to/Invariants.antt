use Rattle.std.proofs.Common.{drop}
use Rattle.reg_changes.specs.Said.{said_by}
use Rattle.reg_changes.specs.KeepingUp.{KeepsUp}
use Rattle.reg_changes.proofs.said.changes_to.Given as goal

abbrev pub invariant-loop-fact : goal.invariant-loop-fact
invariant-loop-fact l =
    KeepsUp (said_by l.fn.said) l.facts (said_by l.said) (drop l.fact-index l.facts) l.changes.items
