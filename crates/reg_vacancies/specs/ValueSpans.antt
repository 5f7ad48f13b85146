-- The numbers in runs between which there is a number that lies in none, and what adds one.
use Rattle.std.specs.Prelude.{◌≡◌, ◌≢◌, ℕ, ◌+◌, ◌^◌, ◌<◌, ◌≤◌, Bool, true, false, ◌&&◌, nat_le, Option, Some, None, ◌⊎◌}
use Rattle.std.specs.BTreeMap.{get}
use Rattle.std.specs.List.{list_any}
use Rattle.std.specs.Ordering.{nat_cmp}
use Rattle.reg_maps.specs.Spans.{Spans, IsRun}

-- the number lies in a run
abbrev pub is_within : Spans → ℕ → Bool
is_within spans n = list_any (λ run. nat_le run.0 n && nat_le n run.1) spans.entries

-- no run is empty, its numbers have 32 bits, and between two runs there is a number that lies in
-- none
pub record Apart (spans : Spans) : Type 0 where
  pub filled : (first last : ℕ) → IsRun spans first last → first ≤ last
  pub fits : (first last : ℕ) → IsRun spans first last → last < 2 ^ 32
  pub apart : (first last above end : ℕ) → IsRun spans first last → IsRun spans above end
      → first < above → last + 1 < above

-- the least number from one on at which the test fails, or none where it holds up to the largest
-- number
abbrev pub IsNextFree : (ℕ → Bool) → ℕ → Option ℕ → Type 0
IsNextFree test from None = (n : ℕ) → from ≤ n → n < 2 ^ 32 → test n ≡ true
IsNextFree test from (Some free) =
    (from ≤ free) × (test free ≡ false) × ((n : ℕ) → from ≤ n → n < free → test n ≡ true)

-- ---- the steps

-- the last run that begins at or below a number
abbrev pub IsBefore : Spans → ℕ → Option (ℕ × ℕ) → Type 0
IsBefore spans value None = (first : ℕ) → first ≤ value → get nat_cmp spans first ≡ None
IsBefore spans value (Some run) =
    IsRun spans run.0 run.1 × (run.0 ≤ value)
    × ((first last : ℕ) → IsRun spans first last → first ≤ value → first ≤ run.0)

-- the number lies in that run
abbrev pub reaches : Option (ℕ × ℕ) → ℕ → Bool
reaches None value = false
reaches (Some run) value = nat_le value run.1

-- where the run of a number begins: at it, or with the run that ends right below it
abbrev pub IsFirst : Option (ℕ × ℕ) → ℕ → ℕ → Type 0
IsFirst None value first = first ≡ value
IsFirst (Some run) value first =
    ((run.1 + 1 ≡ value) × (first ≡ run.0)) ⊎ ((run.1 + 1 ≢ value) × (first ≡ value))

-- a run is put around a number, in the place of the one that begins where it does and of the one
-- right above the number
pub record Joins (old new : Spans) (first last value : ℕ) : Type 0 where
  pub put : get nat_cmp new first ≡ Some last
  pub gone : get nat_cmp new (value + 1) ≡ None
  pub others : (n : ℕ) → n ≢ first → n ≢ value + 1 → get nat_cmp new n ≡ get nat_cmp old n
