-- The law of what is due.
use Rattle.std.specs.Prelude.{◌≡◌, ◌↔◌, ◌≤◌, ℕ, ◌+◌, List, Contains, Some}
use Rattle.reg_early.specs.declared.term.Status.TheVariants.{Temporary}
use Rattle.reg_core.specs.declared.entry.PageEntry.{PageEntry}
use Rattle.reg_core.specs.declared.page.Page.{Page}
use Rattle.reg_client.specs.Allocation.{as_due, due_on}
use Rattle.reg_client.specs.declared.allocation.DueAllocation.{DueAllocation}

-- it is of a Temporary entry of the page, which expires no more than so many days after today
pub record IsOfDueEntry (today days : ℕ) (page : Page) (one : DueAllocation) : Type 0 where
  pub entry : PageEntry
  pub expiry : ℕ
  pub listed : Contains page.entries entry
  pub temporary : entry.status ≡ Temporary
  pub expires : entry.term.expires ≡ Some expiry
  pub soon : expiry ≤ today + days
  pub told : one ≡ as_due page.name entry expiry

-- just these are due
abbrev pub AllocationsAreDue : Type 0
AllocationsAreDue =
    (today days : ℕ) (page : Page) (one : DueAllocation)
    → Contains (due_on today days page) one ↔ IsOfDueEntry today days page one
