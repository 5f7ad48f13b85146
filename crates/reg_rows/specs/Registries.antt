-- What one range more makes of a registry.
use Rattle.std.specs.Prelude.{◌≡◌, ℕ, ◌<◌, List, [], ◌∷◌, ◌++◌, Some}
use Rattle.std.specs.FinMap.{FinMap, get}
use Rattle.std.specs.List.{AllByRecursion}
use Rattle.reg_maps.specs.Maps.{text_cmp}
use Rattle.reg_ranges.specs.Tables.{Table}
use Rattle.reg_ranges.specs.declared.range.Range.{Range}

-- the table with this range after its own
abbrev pub with_range : Range → Table → Table
with_range range table = record table { ranges = table.ranges ++ range ∷ [] }

-- the registry is there, and each of its ranges begins below this one
abbrev pub CanFollow : FinMap text_cmp Table → List ℕ → Range → Type 0
CanFollow registries name range =
    (table : Table) × (get registries name ≡ Some table)
    × AllByRecursion (λ r. r.lo < range.lo) table.ranges
