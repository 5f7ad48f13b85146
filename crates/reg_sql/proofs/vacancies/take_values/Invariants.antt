use Rattle.std.proofs.Common.{◌≡◌, ◌++◌, List, length}
use Rattle.std.specs.FinMap.{empty}
use Rattle.reg_core.specs.declared.entry.Entry.{Entry}
use Rattle.reg_vacancies.specs.Vacancies.{AreVacancies}
use Rattle.reg_sql.specs.Listed.{registrations}
use Rattle.reg_sql.proofs.vacancies.take_values.Given as goal

abbrev pub invariant-entries : goal.invariant-entries
invariant-entries l =
    (taken : List Entry) × (l.fn.entries.items ≡ l.entries.items ++ taken)
    × (AreVacancies l.fn.vacancies empty empty empty
    → AreVacancies l.vacancies (registrations taken) empty empty)

abbrev pub decreases-entries : goal.decreases-entries
decreases-entries l = length l.entries.items
