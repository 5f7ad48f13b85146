-- Allocations that are due, as a table.
use Rattle.std.specs.Prelude.{◌≡◌, ℕ, Bool, true, false, List, [], ◌∷◌, map, codes}
use Rattle.std.specs.Fmt.{decimal}
use Rattle.std.specs.Ordering.{nat_cmp}
use Rattle.std.specs.List.Sorted.{IsPermutation, IsSortedByKey}
use Rattle.reg_maps.specs.Maps.{pair_cmp, text_cmp}
use Rattle.reg_early.specs.DayText.{text_of_day}
use Rattle.reg_print.specs.Listing.{csv_text}
use Rattle.reg_client.specs.declared.allocation.DueAllocation.{DueAllocation}

abbrev pub due_header : List (List ℕ)
due_header =
    codes "Registry" ∷ codes "Value" ∷ codes "Description" ∷ codes "Assignee" ∷ codes "Expires"
    ∷ codes "Held" ∷ []

-- the word of an allocation that is held
abbrev pub held_text : Bool → List ℕ
held_text true = codes "held"
held_text false = []

abbrev pub due_fields : DueAllocation → List (List ℕ)
due_fields one =
    one.registry ∷ decimal one.value ∷ one.description ∷ one.assignee ∷ text_of_day one.expires
    ∷ held_text one.held ∷ []

-- the header, and the record of each, in this order
unfoldable pub due_text : List DueAllocation → List ℕ
due_text due = csv_text (due_header ∷ map due_fields due)

-- by expiry day, registry and value
abbrev pub due_place : DueAllocation → ℕ × (List ℕ × ℕ)
due_place one = (one.expires, (one.registry, one.value))

abbrev pub IsInDueOrder : List DueAllocation → Type 0
IsInDueOrder due = IsSortedByKey due_place (pair_cmp nat_cmp (pair_cmp text_cmp nat_cmp)) due

-- all of them, by expiry day, registry and value
pub record IsDueTable (due : List DueAllocation) (text : List ℕ) : Type 0 where
  pub ordered : List DueAllocation
  pub same : IsPermutation due ordered
  pub in_order : IsInDueOrder ordered
  pub printed : text ≡ due_text ordered
