-- The values that can be assigned under a policy, and the least of them.
use Rattle.std.specs.Prelude.{◌≡◌, ℕ, ◌+◌, ◌<◌, ◌≤◌, Bool, ◌&&◌, not, nat_eq, List, Contains, Option, Some, None, find}
use Rattle.std.specs.Option.{option_eq}
use Rattle.std.specs.List.{list_any, range_with_len}
use Rattle.reg_ranges.specs.declared.range.Range.{Range}
use Rattle.reg_ranges.specs.declared.policy.Policy.{Policy}
use Rattle.reg_ranges.specs.declared.policy.Treatment.TheVariants as treatment
use Rattle.reg_ranges.specs.Sameness.{same_treatment}
use Rattle.reg_ranges.specs.Tables.{Table, treatment_of}

-- the value lies in a range under the policy
abbrev pub TreatsByPolicy : Table → Policy → ℕ → Type 0
TreatsByPolicy table p v = treatment_of table v ≡ Some (treatment.Under p)

-- the least value under the policy that is not taken, or none where each value under it is taken
abbrev pub IsLeastFreeWhere : Table → Policy → (ℕ → Type 0) → Option ℕ → Type 0
IsLeastFreeWhere table p Taken (Some v) =
    TreatsByPolicy table p v × (¬ (Taken v)) × ((u : ℕ) → u < v → TreatsByPolicy table p u → Taken u)
IsLeastFreeWhere table p Taken None = (u : ℕ) → TreatsByPolicy table p u → Taken u

-- the same where a list has the values that are taken
abbrev pub IsLeastFree : Table → Policy → List ℕ → Option ℕ → Type 0
IsLeastFree table p taken o = IsLeastFreeWhere table p (Contains taken) o

-- ---- the same by a search

-- the value lies in a range under the policy
abbrev pub is_under : Table → Policy → ℕ → Bool
is_under table p v = option_eq same_treatment (treatment_of table v) (Some (treatment.Under p))

-- the same, and the value is not taken
abbrev pub is_free : Table → Policy → List ℕ → ℕ → Bool
is_free table p taken v = is_under table p v && not (list_any (nat_eq v) taken)

-- the first value from 0 to the largest that is free under the policy
unfoldable pub least_value : Table → Policy → List ℕ → Option ℕ
least_value table p taken = find (is_free table p taken) (range_with_len 0 (table.max + 1))

-- ---- in one range

-- the least value from lo to hi that is not taken, or none where each of them is taken
abbrev pub IsLeastGapWhere : ℕ → ℕ → (ℕ → Type 0) → Option ℕ → Type 0
IsLeastGapWhere lo hi Taken (Some v) =
    (lo ≤ v) × (v ≤ hi) × (¬ (Taken v)) × ((u : ℕ) → lo ≤ u → u < v → Taken u)
IsLeastGapWhere lo hi Taken None = (u : ℕ) → lo ≤ u → u ≤ hi → Taken u

-- the same where a list has the values that are taken
abbrev pub IsLeastGap : ℕ → ℕ → List ℕ → Option ℕ → Type 0
IsLeastGap lo hi taken o = IsLeastGapWhere lo hi (Contains taken) o

-- the same for a range under the policy, and none for any other
abbrev pub IsLeastIn : Range → Policy → (ℕ → Type 0) → Option ℕ → Type 0
IsLeastIn range p Taken (Some v) =
    (range.treatment ≡ treatment.Under p) × IsLeastGapWhere range.lo range.hi Taken (Some v)
IsLeastIn range p Taken None =
    range.treatment ≡ treatment.Under p → IsLeastGapWhere range.lo range.hi Taken None
