-- The blocks that holdings keep.
use Rattle.std.specs.FinMap.{FinMap}
use Rattle.reg_maps.specs.Maps.{finite_map}
use Rattle.reg_blocks.specs.Block.{block_cmp}
use Rattle.reg_core.specs.declared.holding.Holder.{Holder}
use Rattle.reg_store.specs.declared.lists.holdings.Holdings.{Holdings}

abbrev pub blocks_held : Holdings → FinMap block_cmp Holder
blocks_held h = finite_map block_cmp h.holders
