use Rattle.std.proofs.Common.{◌≡◌, sym, subst, rules}
use Rattle.reg_core.specs.WellKept.{WellKept}
use Rattle.reg_core.specs.World.{empty_world}
use Rattle.reg_core.proofs.Keeping.FirstWorlds.{first_worlds_kept}
use Rattle.reg_store.specs.Lists.ActPlaces.{AreActPlaces}
use Rattle.reg_store.specs.Lists.Blocks.{pool_held, blocks_given}
use Rattle.reg_store.specs.Lists.Content.{content}
use Rattle.reg_store.specs.Lists.Journal.{journal_held}
use Rattle.reg_store.specs.Lists.Links.{links_held}
use Rattle.reg_store.specs.Lists.Registrations.{entries_held}
use Rattle.reg_store.specs.Lists.Reviews.{world_of}
use Rattle.reg_store.proofs.lists.ListKeeper.new.Goals as goal

pub invariant_of-result : goal.invariant_of-result
invariant_of-result c =
    let empty : content c.new.result c.new-2.result (entries_held c.new-3.result)
    (world_of c.new-4.result) (pool_held c.new-5.result) (blocks_given c.new-5.result)
    (links_held c.new-6.result) (journal_held c.new-7.result) ≡ empty_world = search rules in
    record {
      placed = subst (AreActPlaces c.new-8.result) (sym c.new-7.ensures.items) c.new-8.ensures;
      well = subst WellKept (sym empty) first_worlds_kept.0;
    }
