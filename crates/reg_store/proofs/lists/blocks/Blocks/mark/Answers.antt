use Rattle.std.proofs.Common.{sym, subst}
use Rattle.reg_maps.specs.Maps.{update}
use Rattle.reg_maps.proofs.KeySets.{contains-changed}
use Rattle.reg_core.specs.Holding.{with_mark}
use Rattle.reg_core.proofs.KeyOrders.{block_keys}
use Rattle.reg_vacancies.specs.Places.{AreLeftBy}
use Rattle.reg_vacancies.proofs.Carrying.{left-same}
use Rattle.reg_store.specs.Lists.Holdings.{blocks_held}
use Rattle.reg_store.proofs.lists.blocks.Blocks.mark.Goals as goal

pub invariant_of-self : goal.invariant_of-self
invariant_of-self c =
    let self = c.args.self.now in
    let blocks = blocks_held self.holdings in
    let block = c.args.block.now in
    let marked = with_mark c.args.private in
    record {
      left = subst (AreLeftBy self.places) (sym c.mark.ensures)
          (left-same self.places blocks (update blocks block marked)
          (contains-changed block_keys blocks block marked) self.left);
    }
