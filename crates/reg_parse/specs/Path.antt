-- The segments of a path, and what the pattern of a route calls them.
use Rattle.std.specs.Prelude.{ℕ, ◌==◌, List, length, Bool, drop, ◌++◌, codes, Option, option_and_then, slice_get, position}
use Rattle.std.specs.List.{slice_split, list_any}
use Rattle.std.specs.Str.{bytes_eq}
use Rattle.reg_core.specs.Item.{segment_name}
use Rattle.reg_core.specs.declared.item.Segment.{Segment}

-- what stands before, between and behind the slashes
abbrev pub segments : List ℕ → List (List ℕ)
segments path = slice_split (λ b. b == 47) path

abbrev pub is_empty : List ℕ → Bool
is_empty segment = length segment == 0

abbrev pub has_empty_segment : List ℕ → Bool
has_empty_segment path = list_any is_empty (drop 1 (segments path))

-- in a pattern the name of a part in braces stands for the part
abbrev pub stands_for : Segment → List ℕ → Bool
stands_for part segment = bytes_eq segment (codes "{" ++ segment_name part ++ codes "}")

-- the segment of a path at the place where its pattern names this part
abbrev pub segment_named : Segment → List ℕ → List ℕ → Option (List ℕ)
segment_named part pattern path =
    option_and_then (slice_get (segments path)) (position (stands_for part) (segments pattern))
