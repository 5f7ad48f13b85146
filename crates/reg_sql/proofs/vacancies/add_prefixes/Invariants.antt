use Rattle.std.proofs.Common.{◌≡◌, ℕ, ◌++◌, List, length}
use Rattle.std.specs.FinMap.{empty}
use Rattle.reg_vacancies.specs.Pool.{prefix_set}
use Rattle.reg_vacancies.specs.Vacancies.{AreVacancies}
use Rattle.reg_vacancies.specs.Values.{Entries}
use Rattle.reg_sql.proofs.vacancies.add_prefixes.Given as goal

abbrev pub invariant-prefixes : goal.invariant-prefixes
invariant-prefixes l =
    (added : List ℕ) × (l.fn.prefixes ≡ l.prefixes ++ added)
    × ((entries : Entries) → AreVacancies l.fn.vacancies entries empty empty
    → AreVacancies l.vacancies entries (prefix_set added) empty)

abbrev pub decreases-prefixes : goal.decreases-prefixes
decreases-prefixes l = length l.prefixes
