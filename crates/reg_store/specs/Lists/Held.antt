-- The blocks of each account.
use Rattle.std.specs.Prelude.{◌≡◌, List, ℕ}
use Rattle.std.specs.BTreeMap.{BTreeMap}
use Rattle.std.specs.FinMap.{FinMap, get}
use Rattle.std.specs.declared.cmp.Ordering.{Ordering}
use Rattle.reg_maps.specs.Maps.{text_cmp, pair_cmp}
use Rattle.reg_maps.specs.Groups.{pair_map}
use Rattle.reg_blocks.specs.Block.{SizedPrefix, block_cmp}
use Rattle.reg_core.specs.View.{holdings_of}
use Rattle.reg_core.specs.World.{World, empty_world}
use Rattle.reg_core.specs.declared.holding.Holder.{Holder}

-- an account, and a block
abbrev pub held_cmp : List ℕ × SizedPrefix → List ℕ × SizedPrefix → Ordering
held_cmp = pair_cmp text_cmp block_cmp

-- by account, and then by block
abbrev pub Held : Type 0
Held = BTreeMap (List ℕ) (BTreeMap SizedPrefix Holder)

-- the blocks of all accounts
abbrev pub all_held : Held → FinMap held_cmp Holder
all_held held = pair_map text_cmp block_cmp held

-- the world of these blocks alone
abbrev pub block_world : FinMap block_cmp Holder → World
block_world blocks = record empty_world { blocks = blocks }

-- each account has just the blocks that it holds
abbrev pub AreHeld : FinMap block_cmp Holder → FinMap held_cmp Holder → Type 0
AreHeld blocks held =
    (account : List ℕ) (block : SizedPrefix)
    → get held (account, block) ≡ get (holdings_of account (block_world blocks)) block

abbrev pub account_of : Holder → List ℕ
account_of h = h.account
