-- Runs of numbers in a map, from the first to the last number of each.
use Rattle.std.specs.Prelude.{◌≡◌, ℕ, ◌≤◌, Some}
use Rattle.std.specs.BTreeMap.{BTreeMap, get}
use Rattle.std.specs.Ordering.{nat_cmp}

-- from the first to the last number of each run
abbrev pub Spans : Type 0
Spans = BTreeMap ℕ ℕ

-- the run is kept
abbrev pub IsRun : Spans → ℕ → ℕ → Type 0
IsRun spans first last = get nat_cmp spans first ≡ Some last

-- the number lies in a run
pub record Lies (spans : Spans) (n : ℕ) : Type 0 where
  pub first : ℕ
  pub last : ℕ
  pub run : IsRun spans first last
  pub low : first ≤ n
  pub high : n ≤ last
