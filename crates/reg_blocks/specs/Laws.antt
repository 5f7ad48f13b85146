-- The laws of blocks and of the block due.
use Rattle.std.specs.Prelude.{◌≡◌, ℕ, ◌-◌, ◌*◌, ◌^◌, ◌<◌, ◌≤◌, ◌↔◌, List, Some, IsTrue, IfSome, IsNone, Decides}
use Rattle.std.specs.List.Sorted.{IsStrictlyIncreasing, IsNonDecreasingBy, IsSorted}
use Rattle.std.specs.declared.cmp.Ordering.TheVariants.{Equal}
use Rattle.reg_blocks.specs.declared.size.Size.{Size}
use Rattle.reg_blocks.specs.Size.{prefix_bits, address_count, blocks_in_prefix, digit_count}
use Rattle.reg_blocks.specs.Block.{SizedPrefix, IsAddressOf, Clash, first_address, last_address, ends_meet, is_block, block_cmp}
use Rattle.reg_blocks.specs.Digits.{read_block, block_text, Writes}
use Rattle.reg_blocks.specs.Due.{IsDue, NoneIsFree, block_due}

-- a size is the number of bits that a prefix fixes: the others of the 48 tell the addresses apart,
-- those past the 24th tell the blocks in a 24-bit prefix apart, and a digit writes four of them
abbrev pub PrefixBitsDecide : Type 0
PrefixBitsDecide =
    (size : Size)
    → (address_count size ≡ 2 ^ (48 - prefix_bits size))
    × (blocks_in_prefix size ≡ 2 ^ (prefix_bits size - 24))
    × (4 * digit_count size ≡ prefix_bits size)

-- the addresses of a block are those from its first to its last
abbrev pub AddressesRunFromFirstToLast : Type 0
AddressesRunFromFirstToLast =
    (block : SizedPrefix) (address : ℕ)
    → IsAddressOf address block ↔ ((first_address block ≤ address) × (address ≤ last_address block))

-- they are numbers of 48 bits
abbrev pub AddressesHave48Bits : Type 0
AddressesHave48Bits =
    (block : SizedPrefix) (address : ℕ)
    → IsTrue (is_block block) → IsAddressOf address block → address < 2 ^ 48

-- the test on the ends of two blocks decides whether they share an address
abbrev pub EndsDecideClash : Type 0
EndsDecideClash = (a b : SizedPrefix) → Decides (ends_meet a b) (Clash a b)

-- the order of blocks tells any two apart
abbrev pub OrderTellsBlocksApart : Type 0
OrderTellsBlocksApart = (a b : SizedPrefix) → block_cmp a b ≡ Equal → a ≡ b

-- sorted blocks ascend by first address
abbrev pub SortedBlocksAscend : Type 0
SortedBlocksAscend =
    (blocks : List SizedPrefix)
    → IsSorted block_cmp blocks → IsNonDecreasingBy first_address blocks

-- digits read as a block exactly where they write its prefix
abbrev pub ReadingIsExact : Type 0
ReadingIsExact =
    (digits : List ℕ) (block : SizedPrefix)
    → (read_block digits ≡ Some block) ↔ Writes digits block

-- what is written of a block reads as that block
abbrev pub TextReadsBack : Type 0
TextReadsBack =
    (block : SizedPrefix)
    → IsTrue (is_block block) → read_block (block_text block) ≡ Some block

-- no two blocks are due
abbrev pub OneBlockIsDue : Type 0
OneBlockIsDue =
    (pool : List ℕ) (given : List SizedPrefix) (size : Size) (a b : SizedPrefix)
    → IsDue pool given size a → IsDue pool given size b → a ≡ b

-- trial of each block in order finds the block due, and none only where none is free
abbrev pub TrialFindsTheBlockDue : Type 0
TrialFindsTheBlockDue =
    (pool : List ℕ) (given : List SizedPrefix) (size : Size)
    → IsStrictlyIncreasing pool
    → IfSome (block_due pool given size) (IsDue pool given size)
    × (IsNone (block_due pool given size) ↔ NoneIsFree pool given size)
