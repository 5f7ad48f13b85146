-- The world that ordered maps hold.
use Rattle.std.specs.Prelude.{List, ℕ}
use Rattle.std.specs.BTreeMap.{BTreeMap}
use Rattle.std.specs.FinMap.{FinMap}
use Rattle.std.specs.FinSet.{FinSet}
use Rattle.std.specs.Ordering.{nat_cmp}
use Rattle.reg_maps.specs.Maps.{text_cmp, finite_map}
use Rattle.reg_blocks.specs.Block.{block_cmp}
use Rattle.reg_ranges.specs.Tables.{Table}
use Rattle.reg_core.specs.World.{World, link_cmp, place_cmp}
use Rattle.reg_core.specs.declared.capability.Cap.{Cap}
use Rattle.reg_core.specs.declared.entry.Registration.{Registration}
use Rattle.reg_core.specs.declared.holding.Holder.{Holder}
use Rattle.reg_core.specs.declared.journal.Act.{Act}

-- capabilities by digest, registries by name, entries, the world of requests with their experts
-- and advice, the pool, the blocks that were given, who reads whose requests, and the journal
abbrev pub content : BTreeMap (List ℕ) Cap → BTreeMap (List ℕ) Table
    → FinMap place_cmp Registration → World → FinSet nat_cmp → FinMap block_cmp Holder
    → FinSet link_cmp → List Act → World
content caps registries entries reviews pool blocks links journal = record reviews {
  caps = finite_map text_cmp caps;
  registries = finite_map text_cmp registries;
  entries = entries;
  pool = pool;
  blocks = blocks;
  agents = links;
  journal = journal;
}
