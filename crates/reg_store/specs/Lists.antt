-- The content of a keeper in memory.
use Rattle.std.specs.Prelude.{◌≡◌, Result, OnOk, OnErr}
use Rattle.std.specs.declared.alloc.AllocError.{AllocError}
use Rattle.reg_core.specs.World.{World, applied}
use Rattle.reg_core.specs.declared.change.Change.{Change}
use Rattle.reg_store.specs.Lists.Blocks.{pool_held, blocks_given}
use Rattle.reg_store.specs.Lists.Content.{content}
use Rattle.reg_store.specs.Lists.Journal.{journal_held}
use Rattle.reg_store.specs.Lists.Links.{links_held}
use Rattle.reg_store.specs.Lists.Registrations.{entries_held}
use Rattle.reg_store.specs.Lists.Reviews.{world_of}
use Rattle.reg_store.specs.declared.lists.ListKeeper.{ListKeeper}
pub mod Entries
pub mod Requests
pub mod Opinions
pub mod Panels
pub mod File
pub mod Queues
pub mod Reviews
pub mod Registrations
pub mod Held
pub mod Holdings
pub mod Pairs
pub mod Links
pub mod Blocks
pub mod Journal
pub mod ActPlaces
pub mod Content

-- the one that the keeper in memory holds
abbrev pub world_in : ListKeeper → World
world_in k =
    content k.caps k.registries (entries_held k.registrations) (world_of k.reviews)
    (pool_held k.blocks) (blocks_given k.blocks) (links_held k.links) (journal_held k.journal)

-- a change was made whole, or not at all, and the journal stays
pub record IsChanged (old new : ListKeeper) (result : Result (Unit {0}) AllocError) (change : Change) :
    Type 0 where
  pub made : OnOk result (world_in new ≡ applied (world_in old) change)
  pub kept : OnErr result (world_in new ≡ world_in old)
  pub journal : new.journal ≡ old.journal
