-- The entries of registries.
use Rattle.std.specs.Prelude.{ℕ, List}
use Rattle.std.specs.BTreeMap.{BTreeMap}
use Rattle.std.specs.FinMap.{FinMap}
use Rattle.std.specs.Ordering.{nat_cmp}
use Rattle.reg_maps.specs.Maps.{text_cmp}
use Rattle.reg_maps.specs.Groups.{pair_map}
use Rattle.reg_core.specs.World.{place_cmp}
use Rattle.reg_core.specs.declared.entry.Registration.{Registration}

-- by registry, and then by value
abbrev pub ListedEntries : Type 0
ListedEntries = BTreeMap (List ℕ) (BTreeMap ℕ Registration)

-- the entries of all registries, by registry and value
abbrev pub all_entries : ListedEntries → FinMap place_cmp Registration
all_entries entries = pair_map text_cmp nat_cmp entries
