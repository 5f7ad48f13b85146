-- The free blocks of each size, by the runs of their prefixes.
use Rattle.std.specs.Prelude.{◌≡◌, ℕ, ◌+◌, ◌/◌, ◌^◌, ◌≤◌, ◌⊎◌, ◌↔◌, IsTrue, Option, Some, None}
use Rattle.std.specs.BTreeSet.{BTreeSet, contains}
use Rattle.std.specs.Ordering.{nat_cmp}
use Rattle.reg_maps.specs.Spans.{Spans, Lies}
use Rattle.reg_blocks.specs.declared.size.Size.{Size}
use Rattle.reg_blocks.specs.declared.size.Size.TheVariants.{MaL, MaM, MaS}
use Rattle.reg_blocks.specs.Block.{SizedPrefix, first_address, last_address, leading_24, is_block}
use Rattle.reg_blocks.specs.Pool.{IsPool}
use Rattle.reg_vacancies.specs.BlockSpans.{AreDisjoint, IsCut, IsInside}

-- the runs of the size
abbrev pub runs_of : Spans → Spans → Spans → Size → Spans
runs_of large medium small MaL = large
runs_of large medium small MaM = medium
runs_of large medium small MaS = small

-- the prefix of the block lies in the runs of its size
abbrev pub FreeOf : Spans → Spans → Spans → SizedPrefix → Type 0
FreeOf large medium small block = Lies (runs_of large medium small block.size) block.prefix

-- each number is the prefix of a block of the size
abbrev pub AreBlocks : Spans → Size → Type 0
AreBlocks spans size =
    (n : ℕ) → Lies spans n → IsTrue (is_block (record { size = size; prefix = n }))

-- the runs of each size are apart, and each number in them is the prefix of a block
pub record AreSound (large medium small : Spans) : Type 0 where
  pub large_apart : AreDisjoint large
  pub medium_apart : AreDisjoint medium
  pub small_apart : AreDisjoint small
  pub blocks : (size : Size) → AreBlocks (runs_of large medium small size) size

-- the prefixes are a pool's, and each free block lies in one of them
pub record ArePooled (prefixes : BTreeSet ℕ) (large medium small : Spans) : Type 0 where
  pub pool : IsPool prefixes.keys
  pub pooled : (block : SizedPrefix) → FreeOf large medium small block
      → IsTrue (contains nat_cmp prefixes (leading_24 block))

-- ---- the steps

-- the block of the size with the least prefix in the runs, or none where they have no number
abbrev pub IsLeastPlace : Spans → Size → Option SizedPrefix → Type 0
IsLeastPlace spans size None = (n : ℕ) → ¬ Lies spans n
IsLeastPlace spans size (Some due) =
    (due.size ≡ size) × Lies spans due.prefix × ((n : ℕ) → Lies spans n → due.prefix ≤ n)

-- no run of any size goes on from below the block into it, or from it past its end
pub record AreOpen (large medium small : Spans) (block : SizedPrefix) : Type 0 where
  pub large_first : IsCut large (first_address block / 2 ^ 24)
  pub large_last : IsCut large (last_address block / 2 ^ 24 + 1)
  pub medium_first : IsCut medium (first_address block / 2 ^ 20)
  pub medium_last : IsCut medium (last_address block / 2 ^ 20 + 1)
  pub small_first : IsCut small (first_address block / 2 ^ 12)
  pub small_last : IsCut small (last_address block / 2 ^ 12 + 1)

-- the runs have the same numbers
abbrev pub AreSameRuns : Spans → Spans → Type 0
AreSameRuns old new = (n : ℕ) → Lies new n ↔ Lies old n

-- the runs have the numbers between these two and those that they had
abbrev pub GainsRun : Spans → Spans → ℕ → ℕ → Type 0
GainsRun old new lo hi = (n : ℕ) → Lies new n ↔ (IsInside lo hi n ⊎ Lies old n)
