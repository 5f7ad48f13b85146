-- Maps of rows that were listed.
use Rattle.std.specs.Prelude.{List, [], map, false}
use Rattle.std.specs.FinMap.{FinMap, from_entries}
use Rattle.reg_blocks.specs.Block.{block_cmp}
use Rattle.reg_core.specs.Entry.{registration_in}
use Rattle.reg_core.specs.World.{Place, place_cmp}
use Rattle.reg_core.specs.declared.entry.Entry.{Entry}
use Rattle.reg_core.specs.declared.entry.Registration.{Registration}
use Rattle.reg_core.specs.declared.holding.Holder.{Holder}
use Rattle.reg_core.specs.declared.holding.Listed.{Listed}

-- an entry by its place
abbrev pub registered : Entry → Place × Registration
registered e = ((e.registry, e.value), registration_in e)

-- entries by their places
abbrev pub registrations : List Entry → FinMap place_cmp Registration
registrations entries = from_entries (map registered entries)

-- a holder of whom nothing is known
abbrev pub nobody : Holder
nobody = record { account = []; organization = []; address = []; private = false }

-- blocks that were given, whoever holds them
abbrev pub given : List Listed → FinMap block_cmp Holder
given rows = from_entries (map (λ row. (row.block, nobody)) rows)
