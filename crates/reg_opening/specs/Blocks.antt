-- The blocks that stand next to a block in their order.
use Rattle.std.specs.Prelude.{◌≡◌, ℕ, List, Option, Some, None, IsSome}
use Rattle.std.specs.BTreeMap.{BTreeMap, get}
use Rattle.std.specs.BTreeMap.Range.{IsLeBy, IsLtBy}
use Rattle.reg_blocks.specs.Block.{SizedPrefix, Clash, block_cmp}

-- the account of each block's holder
abbrev pub Holders : Type 0
Holders = BTreeMap SizedPrefix (List ℕ)

abbrev pub IsHeld : Holders → SizedPrefix → Type 0
IsHeld holders block = IsSome (get block_cmp holders block)

-- no two blocks share an address
abbrev pub HoldersAreApart : Holders → Type 0
HoldersAreApart holders =
    (a b : SizedPrefix) → IsHeld holders a → IsHeld holders b → Clash a b → a ≡ b

-- the last block before this one, or none where none is before it
abbrev pub BeginsBefore : Holders → SizedPrefix → Option SizedPrefix → Type 0
BeginsBefore holders block None =
    (other : SizedPrefix) → IsHeld holders other → ¬ IsLtBy block_cmp other block
BeginsBefore holders block (Some last) =
    IsHeld holders last × IsLtBy block_cmp last block
    × ((other : SizedPrefix) → IsHeld holders other → IsLtBy block_cmp other block
    → IsLeBy block_cmp other last)

-- the first block from this one on, or none where none is after it
abbrev pub IsFrom : Holders → SizedPrefix → Option SizedPrefix → Type 0
IsFrom holders block None =
    (other : SizedPrefix) → IsHeld holders other → ¬ IsLeBy block_cmp block other
IsFrom holders block (Some first) =
    IsHeld holders first × IsLeBy block_cmp block first
    × ((other : SizedPrefix) → IsHeld holders other → IsLeBy block_cmp block other
    → IsLeBy block_cmp first other)

-- the block shares no address with a neighbour that may be there
abbrev pub IsClearOf : Option SizedPrefix → SizedPrefix → Type 0
IsClearOf None block = Unit {0}
IsClearOf (Some neighbour) block = ¬ Clash block neighbour
