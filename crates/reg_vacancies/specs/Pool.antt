-- The pool of prefixes.
use Rattle.std.specs.Prelude.{ℕ, List, map}
use Rattle.std.specs.FinMap.{from_entries}
use Rattle.std.specs.FinSet.{FinSet}
use Rattle.std.specs.Ordering.{nat_cmp}

-- the prefixes as a set
abbrev pub prefix_set : List ℕ → FinSet nat_cmp
prefix_set prefixes = from_entries (map (λ prefix. (prefix, tt)) prefixes)
