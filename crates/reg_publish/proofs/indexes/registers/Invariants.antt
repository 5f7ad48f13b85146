use Rattle.std.proofs.Common.{◌≡◌, map, take}
use Rattle.reg_history.specs.Overview.{moment_by}
use Rattle.reg_site.specs.IndexTree.{row_of}
use Rattle.reg_publish.proofs.indexes.registers.Given as goal

abbrev pub invariant-loop-summary : goal.invariant-loop-summary
invariant-loop-summary l =
    map row_of l.registers.items
    ≡ map (λ s. (s, moment_by l.overview.changed s.name)) (take l.summary-index l.summaries)
