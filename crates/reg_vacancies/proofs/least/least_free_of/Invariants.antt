use Rattle.std.proofs.Common.{drop}
use Rattle.std.specs.Prelude.{IsTrue}
use Rattle.reg_ranges.proofs.LeastFree.{Searched}
use Rattle.reg_vacancies.specs.Runs.{has}
use Rattle.reg_vacancies.proofs.least.least_free_of.Given as goal

abbrev pub invariant-loop-range : goal.invariant-loop-range
invariant-loop-range l =
    Searched l.table l.policy (λ n. IsTrue (has l.taken n)) (drop l.range-index l.table.ranges)
