use Rattle.std.proofs.Common.{sym, subst}
use Rattle.reg_maps.specs.Maps.{update, finite_map}
use Rattle.reg_core.specs.Holding.{with_mark}
use Rattle.reg_store.specs.Lists.Held.{AreHeld, all_held}
use Rattle.reg_blocks.specs.Block.{block_cmp}
use Rattle.reg_store.proofs.HeldLaws.{held-mark}
use Rattle.reg_store.proofs.lists.holdings.mark_both.Goals as goal

pub returns-in-Some-clause-in_step : goal.returns-in-Some-clause-in_step
returns-in-Some-clause-in_step c =
    let blocks = finite_map block_cmp c.args.holders.now in
    let held = all_held c.args.held.now in
    let marked = held-mark blocks held c.requires c.args.block.now c.args.private
    c.in-Some.account c.in-Some.ensures in
    subst (λ x. AreHeld x (all_held c.set_private_held.new.held)) (sym c.set_private.ensures)
    (subst (AreHeld (update blocks c.args.block.now (with_mark c.args.private)))
    (sym c.set_private_held.ensures) marked)
