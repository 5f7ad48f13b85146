-- The pool and the free blocks that places keep.
use Rattle.std.specs.Prelude.{◌≡◌, ℕ, ◌≤◌, ◌⊎◌, ◌↔◌, List, All, Contains, Option, Some, None}
use Rattle.reg_blocks.specs.declared.size.Size.{Size}
use Rattle.reg_blocks.specs.Block.{SizedPrefix, first_address, leading_24}
use Rattle.reg_blocks.specs.Due.{IsFree}
use Rattle.reg_vacancies.specs.Sizes.{FreeOf}
use Rattle.reg_vacancies.specs.declared.pool_places.Places.{Places}

-- the prefixes of the pool
unfoldable pub pool_of : Places → List ℕ
pool_of places = places.prefixes.keys

-- the block is free
unfoldable pub IsFreeIn : Places → SizedPrefix → Type 0
IsFreeIn places block = FreeOf places.large places.medium places.small block

-- the block of the size with the least first address of which the fact holds, or none where it
-- holds of none
abbrev pub IsDueOf : (SizedPrefix → Type 0) → Size → Option SizedPrefix → Type 0
IsDueOf free size None = (block : SizedPrefix) → block.size ≡ size → ¬ free block
IsDueOf free size (Some due) =
    free due × (due.size ≡ size)
    × ((block : SizedPrefix) → block.size ≡ size → free block
    → first_address due ≤ first_address block)

-- the free blocks are those that lie in a prefix of the pool and share no address with a given
-- block, and each given block lies in a prefix of the pool
pub record FollowsGiven (places : Places) (given : List SizedPrefix) : Type 0 where
  pub free : (block : SizedPrefix) → IsFreeIn places block ↔ IsFree (pool_of places) given block
  pub in_pool : All (λ block. Contains (pool_of places) (leading_24 block)) given

-- one block more was given
abbrev pub AddsBlock : List SizedPrefix → List SizedPrefix → SizedPrefix → Type 0
AddsBlock old new block =
    (other : SizedPrefix) → Contains new other ↔ ((other ≡ block) ⊎ Contains old other)
