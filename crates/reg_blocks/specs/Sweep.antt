-- What the sweep over one prefix of the pool finds.
use Rattle.std.specs.Prelude.{ℕ, ◌+◌, ◌*◌, ◌^◌, ◌<◌, ◌≤◌, List, [], ◌∷◌, length}
use Rattle.std.specs.List.{AllWithin}
use Rattle.reg_blocks.specs.declared.size.Size.{Size}
use Rattle.reg_blocks.specs.declared.due.Sweep.{Sweep}
use Rattle.reg_blocks.specs.declared.due.Sweep.TheVariants.{Free, Full}
use Rattle.reg_blocks.specs.Block.{SizedPrefix, last_address}
use Rattle.reg_blocks.specs.Due.{IsDue, NoneIsFree}

-- the first so many of the given blocks end before the address
abbrev pub EndBefore : List SizedPrefix → ℕ → ℕ → Type 0
EndBefore given count address = AllWithin (λ block. last_address block < address) given 0 count

-- no block of the size in this prefix is free, and the first so many of the given blocks end with
-- the prefix or before
pub record IsFull (prefix : ℕ) (given : List SizedPrefix) (size : Size) (count : ℕ) : Type 0 where
  pub none : NoneIsFree (prefix ∷ []) given size
  pub within : count ≤ length given
  pub passed : EndBefore given count ((prefix + 1) * 2 ^ 24)

-- the block due of the pool with this prefix alone, or how many of the given blocks were passed
abbrev pub Swept : ℕ → List SizedPrefix → Size → Sweep → Type 0
Swept prefix given size (Free candidate) = IsDue (prefix ∷ []) given size (record {
  size = size;
  prefix = candidate;
})
Swept prefix given size (Full passed) = IsFull prefix given size passed
