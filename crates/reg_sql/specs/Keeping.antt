-- What a keeper over tables has beside its connection.
use Rattle.std.specs.Prelude.{◌≡◌, ℕ, length, Option, Some}
use Rattle.sqlite.specs.State.{State, HasCleanDisk}
use Rattle.reg_core.specs.WellKept.{WellKept}
use Rattle.reg_vacancies.specs.Vacancies.{MayBeOf}
use Rattle.reg_vacancies.specs.declared.vacancies.Vacancies.{Vacancies}
use Rattle.reg_tables.specs.Connection.{Holds}
use Rattle.reg_rows.specs.Calls.{IsKeeping}
use Rattle.reg_opening.specs.declared.beside.Beside.{Beside}
use Rattle.reg_statements.specs.Content.{world_in}

-- the disk has returned what was written, and did not fail
pub record IsHonest (s : State) : Type 0 where
  pub clean : HasCleanDisk s
  pub unfailed : s.faults ≡ 0

-- the last act of the journal has this number, and there are as many
abbrev pub CountsTo : ℕ → State → Type 0
CountsTo last s = Holds s → last ≡ length (world_in s).journal

-- the rows are an office's, and what stands beside them is made from them
pub record IsFollowed (vacancies : Option Vacancies) (last : ℕ) (s : State) : Type 0 where
  pub keeping : IsKeeping s
  pub follows : Holds s → MayBeOf (world_in s) vacancies
  pub counts : CountsTo last s

-- the rows are those of an office that is well kept, and what stands beside them is made from them
pub record KeepsOffice (vacancies : Option Vacancies) (s : State) : Type 0 where
  pub keeping : IsKeeping s
  pub kept : Holds s → WellKept (world_in s)
  pub follows : Holds s → MayBeOf (world_in s) vacancies

-- so it is of all that stands beside them
pub record KeepsBeside (beside : Beside) (s : State) : Type 0 where
  pub office : KeepsOffice (Some beside.vacancies) s
  pub counts : CountsTo beside.last s
