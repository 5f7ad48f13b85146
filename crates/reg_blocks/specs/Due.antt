-- The block that is given next.
use Rattle.std.specs.Prelude.{◌≡◌, ℕ, ◌*◌, ◌≤◌, not, List, All, Contains, map, find, flat_map, Option}
use Rattle.std.specs.List.{list_all, range_with_len}
use Rattle.reg_blocks.specs.declared.size.Size.{Size}
use Rattle.reg_blocks.specs.Size.{blocks_in_prefix}
use Rattle.reg_blocks.specs.Block.{SizedPrefix, Clash, first_address, leading_24, ends_meet}

-- the block lies in a prefix of the pool and shares no address with a given block
pub record IsFree (pool : List ℕ) (given : List SizedPrefix) (block : SizedPrefix) : Type 0 where
  pub in_pool : Contains pool (leading_24 block)
  pub apart : All (λ other. ¬ Clash block other) given

-- the block is the free one of the size with the least first address
pub record IsDue (pool : List ℕ) (given : List SizedPrefix) (size : Size) (block : SizedPrefix) :
    Type 0 where
  pub free : IsFree pool given block
  pub of_size : block.size ≡ size
  pub least :
      (other : SizedPrefix)
      → other.size ≡ size
      → IsFree pool given other
      → first_address block ≤ first_address other

-- no block of the size is free
abbrev pub NoneIsFree : List ℕ → List SizedPrefix → Size → Type 0
NoneIsFree pool given size = (block : SizedPrefix) → block.size ≡ size → ¬ IsFree pool given block

-- the blocks of the size in a 24-bit prefix, in order
abbrev pub blocks_in : Size → ℕ → List SizedPrefix
blocks_in size prefix =
    let count = blocks_in_prefix size in
    map (λ k. record { size = size; prefix = k }) (range_with_len (prefix * count) count)

-- the block due by trial of each block of the size, prefix after prefix
unfoldable pub block_due : List ℕ → List SizedPrefix → Size → Option SizedPrefix
block_due pool given size =
    find (λ block. list_all (λ other. not (ends_meet block other)) given)
    (flat_map (blocks_in size) pool)
