-- The set that runs keep.
use Rattle.std.specs.Prelude.{ℕ, Bool}
use Rattle.reg_vacancies.specs.declared.runs.Runs.{Runs}
use Rattle.reg_vacancies.specs.ValueSpans.{is_within}
pub use Rattle.reg_vacancies.specs.ValueSpans.{IsNextFree}

-- the number is in the set
unfoldable pub has : Runs → ℕ → Bool
has runs n = is_within runs.spans n
