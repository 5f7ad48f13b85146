use Rattle.std.proofs.Common.{◌≡◌, ℕ, ◌⊎◌}
use Rattle.std.specs.Prelude.{None}
use Rattle.std.specs.BTreeMap.{btree_map_len, get}
use Rattle.std.specs.Ordering.{nat_cmp}
use Rattle.reg_vacancies.specs.BlockSpans.{IsInside}
use Rattle.reg_vacancies.proofs.block_spans.clear.Given as goal

-- each run is as it was, or is gone and began inside
abbrev pub invariant-loop-first : goal.invariant-loop-first
invariant-loop-first l =
    (n : ℕ)
    → (get nat_cmp l.spans n ≡ get nat_cmp l.fn.spans n)
    ⊎ (IsInside l.lo l.hi n × (get nat_cmp l.spans n ≡ None))

abbrev pub decreases-loop-first : goal.decreases-loop-first
decreases-loop-first l = btree_map_len l.spans
