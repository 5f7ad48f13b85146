-- Tasks that a job had carried out.
use Rattle.std.proofs.Common.{List, ℕ, Result, Ok, Err, inl, inr}
use Rattle.std.specs.Prelude.{⊤}
use Rattle.reg_jobs.specs.Asking.{IsAddress}
use Rattle.reg_program.specs.Performing.{Carries, TellsFrom, Tries}
use Rattle.reg_program.specs.Tasks.{Streams}
use Rattle.reg_program.specs.declared.faults.Undone.{Undone}
use Rattle.reg_program.specs.declared.tasks.Task.{Task}

-- what was done with a result was tried
pub tried : (Untouched : Type 0) (Does : Result ⊤ Undone → Type 0) (result : Result ⊤ Undone)
    → Does result → Tries Untouched Does result
tried Untouched Does (Ok u) does = does
tried Untouched Does (Err why) does = inr does

-- it touches no office, and what becomes of it is said
pub touches_none : (Untouched : Type 0) (Does : Result ⊤ Undone → Type 0) (done : Result ⊤ Undone)
    → Untouched → Does done → Tries Untouched (λ end. Untouched × Does end) done
touches_none Untouched Does (Ok u) same does = (same, does)
touches_none Untouched Does (Err why) same does = inr (same, does)

-- the one in a file was to do it
pub file_tells : (Untouched : Type 0) (source : List ℕ) (Printed : Type 0)
    (Does : Result ⊤ Undone → Type 0) (done : Result ⊤ Undone) → (IsAddress source → ⊥)
    → Tries Untouched Does done → Tries Untouched (TellsFrom Untouched source Printed Does) done
file_tells Untouched source Printed Does (Ok u) not tries =
    ((λ served. absurd (not served)), (λ _. tries))
file_tells Untouched source Printed Does (Err why) not (inl same) = inl same
file_tells Untouched source Printed Does (Err why) not (inr does) =
    inr ((λ served. absurd (not served)), (λ _. does))

module _ (Carried : List ℕ → Task → Streams → Result ⊤ Undone → Type 0) (Untouched : Type 0) where
  -- such a task was carried out
  pub carries : (file : List ℕ) (Is : Task → Type 0) (io : Streams) (task : Task)
      (result : Result ⊤ Undone) → Carried file task io result → Is task
      → Tries Untouched (Carries Carried file Is io) result
  carries file Is io task result carried is =
      tried Untouched (Carries Carried file Is io) result (task, is, carried)
