-- The entries that registrations keep.
use Rattle.std.specs.FinMap.{FinMap}
use Rattle.reg_core.specs.World.{place_cmp}
use Rattle.reg_core.specs.declared.entry.Registration.{Registration}
use Rattle.reg_store.specs.Lists.Entries.{all_entries}
use Rattle.reg_store.specs.declared.lists.registrations.Registrations.{Registrations}

abbrev pub entries_held : Registrations → FinMap place_cmp Registration
entries_held r = all_entries r.entries
