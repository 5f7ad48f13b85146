-- The pool, and the blocks that were given.
use Rattle.std.specs.FinMap.{FinMap}
use Rattle.std.specs.FinSet.{FinSet}
use Rattle.std.specs.Ordering.{nat_cmp}
use Rattle.reg_blocks.specs.Block.{block_cmp}
use Rattle.reg_core.specs.declared.holding.Holder.{Holder}
use Rattle.reg_vacancies.specs.Places.{pool_in}
use Rattle.reg_store.specs.Lists.Holdings.{blocks_held}
use Rattle.reg_store.specs.declared.lists.blocks.Blocks.{Blocks}

abbrev pub pool_held : Blocks → FinSet nat_cmp
pool_held b = pool_in b.places

abbrev pub blocks_given : Blocks → FinMap block_cmp Holder
blocks_given b = blocks_held b.holdings
