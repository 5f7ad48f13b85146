-- What is printed of the early allocations that expire soon.
use Rattle.std.specs.Prelude.{◌≡◌, ℕ, List, Option, Some}
use Rattle.reg_core.specs.View.{Published}
use Rattle.reg_client.specs.Asking.{due_by}
use Rattle.reg_client.specs.Table.{IsDueTable}
use Rattle.reg_client.specs.declared.allocation.DueAllocation.{DueAllocation}
use Rattle.reg_early.specs.Moment.{day_of_moment}
use Rattle.reg_source.specs.Source.{Asks}
use Rattle.reg_program.specs.Printing.{Prints}

-- the table of some allocations is printed
abbrev pub PrintsTable : Option (List ℕ) → Option (List ℕ) → Type 0
PrintsTable had has =
    (due : List DueAllocation) × Prints had has (IsDueTable due)

-- The table is printed of just the allocations that are due within so many days from the day of a
-- moment, of what a source tells anybody then. What is published there stays.
pub record PrintsDue {S : Type 0} (published : S → Published) (Holds : S → Type 0)
    (before after : S) (moment days : ℕ) (had has : Option (List ℕ)) : Type 0 where
  pub today : ℕ
  pub is_today : day_of_moment moment ≡ Some today
  pub due : List DueAllocation
  pub told : Asks published Holds before after (λ p. due ≡ due_by p moment today days)
  pub prints : Prints had has (IsDueTable due)
