use Rattle.std.proofs.Common.{sym, subst}
use Rattle.std.specs.FinMap.{remove}
use Rattle.reg_maps.specs.Maps.{finite_map}
use Rattle.reg_blocks.specs.Block.{block_cmp}
use Rattle.reg_store.specs.Lists.Held.{AreHeld, all_held}
use Rattle.reg_store.proofs.HeldLaws.{held-take}
use Rattle.reg_store.proofs.lists.holdings.take_both.Goals as goal

pub returns-clause-in_step : goal.returns-clause-in_step
returns-clause-in_step c =
    let blocks = finite_map block_cmp c.args.holders.now in
    let held = all_held c.args.held.now in
    let block = c.args.block.now in
    subst (λ x. AreHeld x (all_held c.take_row.new.groups)) (sym c.unset_row.ensures)
    (subst (AreHeld (remove blocks block)) (sym c.take_row.ensures)
    (held-take blocks held c.requires.in_step block c.args.account.now c.requires.held))
