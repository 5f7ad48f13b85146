-- The numbers in runs that may touch, and what fills and cuts them.
use Rattle.std.specs.Prelude.{◌≡◌, ◌≢◌, ℕ, ◌-◌, ◌<◌, ◌≤◌, Option, Some, None, ◌⊎◌}
use Rattle.std.specs.BTreeMap.{get}
use Rattle.std.specs.Ordering.{nat_cmp}
use Rattle.reg_maps.specs.Spans.{Spans, IsRun}

-- no run is empty, and no two share a number
pub record AreDisjoint (spans : Spans) : Type 0 where
  pub filled : (first last : ℕ) → IsRun spans first last → first ≤ last
  pub apart : (first last above end : ℕ) → IsRun spans first last → IsRun spans above end
      → first < above → last < above

-- no run goes on from below the number to it
abbrev pub IsCut : Spans → ℕ → Type 0
IsCut spans at = (first last : ℕ) → IsRun spans first last → first < at → last < at

-- a number is one of these, or none of them
abbrev pub IsInside : ℕ → ℕ → ℕ → Type 0
IsInside lo hi n = (lo ≤ n) × (n ≤ hi)

abbrev pub IsOutside : ℕ → ℕ → ℕ → Type 0
IsOutside lo hi n = (n < lo) ⊎ (hi < n)

-- the least number of which the fact holds, or none where it holds of none
abbrev pub IsLeast : (ℕ → Type 0) → Option ℕ → Type 0
IsLeast holds None = (n : ℕ) → ¬ holds n
IsLeast holds (Some least) = holds least × ((n : ℕ) → holds n → least ≤ n)

-- ---- the steps

-- where a run begins at one of these numbers, or none where no run does
abbrev pub BeginsIn : Spans → ℕ → ℕ → Option ℕ → Type 0
BeginsIn spans lo hi None =
    (first last : ℕ) → IsRun spans first last → ¬ IsInside lo hi first
BeginsIn spans lo hi (Some first) = IsInside lo hi first × (get nat_cmp spans first ≢ None)

-- the last run that begins below a number
abbrev pub IsBelow : Spans → ℕ → Option (ℕ × ℕ) → Type 0
IsBelow spans at None = (first last : ℕ) → IsRun spans first last → at ≤ first
IsBelow spans at (Some run) =
    IsRun spans run.0 run.1 × (run.0 < at)
    × ((first last : ℕ) → IsRun spans first last → first < at → first ≤ run.0)

-- a run ends before a number, and another goes on from it
pub record Splits (old new : Spans) (first last at : ℕ) : Type 0 where
  pub left : get nat_cmp new first ≡ Some (at - 1)
  pub right : get nat_cmp new at ≡ Some last
  pub others : (n : ℕ) → n ≢ first → n ≢ at → get nat_cmp new n ≡ get nat_cmp old n
