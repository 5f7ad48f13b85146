-- Laws of the definitions.
use Rattle.std.specs.Bool.{Decides}
use Rattle.std.specs.Prelude.{Bool, ◌≡◌, ◌↔◌, ◌≤◌, ◌<◌, ℕ, List, Contains, Option, Some, None, IsNone, IsTrue}
use Rattle.reg_ranges.specs.declared.range.Range.{Range}
use Rattle.reg_ranges.specs.Tables.{Table, IsPartition, lies_in, treatment_of}
use Rattle.reg_ranges.specs.FreeValues.{IsLeastFree, least_value}
use Rattle.reg_ranges.specs.declared.policy.Policy.{Policy}
use Rattle.reg_ranges.specs.Faults.{first_fault}

-- ranges have no fault exactly where they are a partition
abbrev pub FaultsTellPartitions : Type 0
FaultsTellPartitions =
    (max : ℕ) (ranges : List Range) → (first_fault max ranges ≡ None) ↔ IsPartition (record {
      max = max;
      ranges = ranges;
    })

-- each value up to the largest lies in one range, and in no other
abbrev pub EachValueHasOneRange : Type 0
EachValueHasOneRange =
    (table : Table) → IsPartition table → (v : ℕ) → v ≤ table.max
    → (range : Range) × Contains table.ranges range × IsTrue (lies_in v range)
    × ((other : Range) → Contains table.ranges other → IsTrue (lies_in v other) → other ≡ range)

-- the treatment of a value is that of the range in which it lies, and there is none above the
-- largest value
abbrev pub TreatmentIsOfItsRange : Type 0
TreatmentIsOfItsRange =
    (table : Table) → IsPartition table
    → ((range : Range) (v : ℕ) → Contains table.ranges range → IsTrue (lies_in v range)
    → treatment_of table v ≡ Some range.treatment)
    × ((v : ℕ) → IsNone (treatment_of table v) ↔ (table.max < v))

-- the search for the least free value finds one that is under the policy and not taken, while each
-- lower value under it is taken; it finds none only where each value under the policy is taken; and
-- no other value is the least
abbrev pub LeastValueIsLeast : Type 0
LeastValueIsLeast =
    (table : Table) → IsPartition table → (policy : Policy) (taken : List ℕ)
    → IsLeastFree table policy taken (least_value table policy taken)
    × ((other : Option ℕ) → IsLeastFree table policy taken other
    → other ≡ least_value table policy taken)

-- a test of sameness is true exactly of equal values
abbrev pub TellsSame : {T : Type 0} → (T → T → Bool) → Type 0
TellsSame {T} same = (x y : T) → Decides (same x y) (x ≡ y)
