-- A registry's ranges as a partition of its values (RFC 8126 section 6).
use Rattle.std.specs.Prelude.{◌≡◌, ℕ, ◌<◌, ◌≤◌, Bool, ◌&&◌, nat_le, List, map, length, find, count_by, All, Option, option_map}
use Rattle.std.specs.List.Sorted.{IsStrictlyIncreasing}
use Rattle.reg_ranges.specs.declared.range.Range.{Range}
use Rattle.reg_ranges.specs.declared.policy.Treatment.{Treatment}

-- the largest value of a registry, and its ranges
pub record Table : Type 0 where
  pub max : ℕ
  pub ranges : List Range

-- the value lies in the range
abbrev pub lies_in : ℕ → Range → Bool
lies_in v range = nat_le range.lo v && nat_le v range.hi

-- the most ranges of a registry
abbrev pub most_ranges : ℕ
most_ranges = 64

-- there are 1 to 64 ranges, in ascending order, none is empty, and each number from 0 to the
-- largest value, and no other, lies in exactly one of them
pub record IsPartition (table : Table) : Type 0 where
  pub some : 1 ≤ length table.ranges
  pub few : length table.ranges ≤ most_ranges
  pub ascending : IsStrictlyIncreasing (map (λ range. range.lo) table.ranges)
  pub none_empty : All (λ range. range.lo ≤ range.hi) table.ranges
  pub covered : (v : ℕ) → v ≤ table.max → count_by (lies_in v) table.ranges ≡ 1
  pub no_other : (v : ℕ) → table.max < v → count_by (lies_in v) table.ranges ≡ 0

-- the treatment of a value is that of its range
abbrev pub treatment_of : Table → ℕ → Option Treatment
treatment_of table v = option_map (λ range. range.treatment) (find (lies_in v) table.ranges)
