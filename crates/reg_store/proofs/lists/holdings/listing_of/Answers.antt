use Rattle.std.proofs.Common.{◌++◌, ap, sym, ◌∙◌, map, rules}
use Rattle.reg_maps.specs.Maps.{finite_map}
use Rattle.reg_maps.proofs.FiniteMaps.InOrder.{entries-finite_map}
use Rattle.reg_blocks.specs.Block.{SizedPrefix, block_cmp}
use Rattle.reg_core.specs.Holding.{listed_row, masked}
use Rattle.reg_core.specs.declared.holding.Holder.{Holder}
use Rattle.reg_core.proofs.KeyOrders.{block_keys}
use Rattle.reg_store.proofs.HeldLaws.{listed_rows-masked}
use Rattle.reg_store.proofs.lists.holdings.listing_of.Goals as goal

pub returns : goal.returns
returns c =
    let row = λ (block : SizedPrefix) (h : Holder). listed_row block (masked h) in
    let rows = map (λ e. row e.0 e.1) in
    c.from_vec.ensures
    ∙ c.in_ok-push_rows.ensures row (λ block h made. search rules)
    ∙ ap (λ made. made ++ rows c.args.holders.now.entries) c.in_ok-rows.ensures.items
    ∙ ap rows (sym (entries-finite_map block_keys c.args.holders.now c.len.ensures.ordered))
    ∙ sym (listed_rows-masked (finite_map block_cmp c.args.holders.now))
