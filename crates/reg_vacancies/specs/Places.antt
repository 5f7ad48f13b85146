-- The pool of an office, and the places in it that no block takes.
use Rattle.std.specs.Prelude.{◌≡◌, ◌↔◌}
use Rattle.std.specs.FinMap.{FinMap, keys}
use Rattle.std.specs.FinSet.{FinSet}
use Rattle.std.specs.Ordering.{nat_cmp}
use Rattle.reg_blocks.specs.Block.{block_cmp}
use Rattle.reg_core.specs.declared.holding.Holder.{Holder}
use Rattle.reg_vacancies.specs.PoolPlaces.{FollowsGiven, pool_of}
use Rattle.reg_vacancies.specs.declared.pool_places.Places.{Places}
use Rattle.reg_vacancies.specs.Pool.{prefix_set}
use Rattle.reg_vacancies.specs.declared.places.FreePlaces.{FreePlaces}

-- the pool and the free blocks in it
unfoldable pub places_in : FreePlaces → Places
places_in free = free.places

-- the pool, as a set of prefixes
abbrev pub pool_in : FreePlaces → FinSet nat_cmp
pool_in free = prefix_set (pool_of (places_in free))

-- who holds each block that was given
abbrev pub Blocks : Type 0
Blocks = FinMap block_cmp Holder

-- the places that are free are just those that these blocks, which lie in the pool, leave
abbrev pub AreLeftBy : FreePlaces → Blocks → Type 0
AreLeftBy free blocks = ∥ FollowsGiven (places_in free) (keys blocks) ∥₁

-- of free places before and after: the pool is the same, and the same blocks leave them
pub record AreUnchanged (old new : FreePlaces) : Type 0 where
  pub pool : pool_in new ≡ pool_in old
  pub left : (blocks : Blocks) → AreLeftBy new blocks ↔ AreLeftBy old blocks
