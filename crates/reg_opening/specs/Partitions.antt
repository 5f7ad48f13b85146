-- Registries with their ranges, as they are loaded from two tables.
use Rattle.std.specs.Prelude.{◌≡◌, ◌⊎◌, if◌then◌else◌, true, false, ℕ, Bool, List, [], ◌∷◌, map, filter, Option, IsSome, MatchOption, Vec}
use Rattle.std.specs.FinMap.{get}
use Rattle.std.specs.List.{AllByRecursion, list_all, list_any}
use Rattle.std.specs.declared.alloc.Global.{Global}
use Rattle.reg_maps.specs.Maps.{same_text, text_cmp}
use Rattle.reg_maps.specs.RowMaps.{IsTable}
use Rattle.reg_ranges.specs.Forms.{is_partition}
use Rattle.reg_ranges.specs.declared.range.Range.{Range}
use Rattle.reg_opening.specs.declared.audit.Audit.{Audit}
use Rattle.reg_opening.specs.declared.row.Row.{Row}
use Rattle.reg_opening.specs.declared.row.Row.TheVariants as row
use Rattle.reg_core.specs.World.{Place, place_cmp}
use Rattle.reg_keeper.specs.declared.keeper.Fault.{Fault}
use Rattle.reg_keeper.specs.declared.keeper.Fault.TheVariants.{Memory, Store}
use Rattle.reg_records.specs.declared.ranges.RegistryRange.{RegistryRange}
use Rattle.reg_records.specs.declared.registries.Registry.{Registry}
use Rattle.reg_statements.specs.Content.{max_at, maxes_in, range_at, ranges_in}
use Rattle.reg_opening.specs.Feeding.{FeedsRows}
use Rattle.reg_statements.specs.Loading.{IsAscending}
use Rattle.reg_statements.specs.Tables.{Tables}
use Rattle.reg_opening.specs.declared.partitions.Partition.{Partition}

-- no two registries have one name, no two ranges of a registry one first value, and each range is a
-- registry's that is there
pub record AreRegistries (t : Tables) : Type 0 where
  pub registries : IsTable text_cmp max_at t.registries
  pub ranges : IsTable place_cmp range_at t.ranges
  pub owned : (place : Place) → IsSome (get (ranges_in t) place)
      → IsSome (get (maxes_in t) place.0)

-- the ranges of the registry of a name
abbrev pub ranges_named : List RegistryRange → List ℕ → List Range
ranges_named rows name = map (λ row. row.range) (filter (λ row. same_text row.registry name) rows)

-- a registry with its ranges
abbrev pub partition_of : List RegistryRange → Registry → Partition
partition_of rows registry = record {
  name = registry.name;
  table = record { max = registry.max; ranges = ranges_named rows registry.name };
}

-- there is a registry of the name
abbrev pub is_named : List Registry → List ℕ → Bool
is_named registries name = list_any (λ registry. same_text registry.name name) registries

-- each range has a registry
abbrev pub are_owned : List Registry → List RegistryRange → Bool
are_owned registries rows = list_all (λ row. is_named registries row.registry) rows

-- the ranges that the first rows give to a registry
abbrev pub leading : List ℕ → List RegistryRange → List Range
leading name [] = []
leading name (row ∷ rows) =
    if same_text row.registry name then row.range ∷ leading name rows else []

-- and the rows after them
abbrev pub trailing : List ℕ → List RegistryRange → List RegistryRange
trailing name [] = []
trailing name (row ∷ rows) =
    if same_text row.registry name then trailing name rows else row ∷ rows

-- a registry and the ranges that it took
abbrev pub Share : Type 0
Share = Registry × List Range

-- registries that take their ranges one after the other, each from the rows that are left
abbrev pub shared_out : List Registry → List RegistryRange → List Share
shared_out [] rows = []
shared_out (registry ∷ registries) rows =
    (registry, leading registry.name rows) ∷ shared_out registries (trailing registry.name rows)

-- the rows that nobody took
abbrev pub left_over : List Registry → List RegistryRange → List RegistryRange
left_over [] rows = rows
left_over (registry ∷ registries) rows = left_over registries (trailing registry.name rows)

abbrev pub partition_from : Share → Partition
partition_from share = record {
  name = share.0.name;
  table = record { max = share.0.max; ranges = share.1 };
}

-- each registry with its ranges, or none where the ranges of one are no partition of its values
abbrev pub ArePartitions : List Share → Option (Vec Partition Global) → Type 0
ArePartitions shares found =
    MatchOption found
    (¬ AllByRecursion (λ share. is_partition (partition_from share).table ≡ true) shares)
    (λ all. all.items ≡ map partition_from shares)

-- a registry with its ranges, as the row that an audit is fed
abbrev pub partition_row : Partition → Row
partition_row partition = row.Registry partition.name partition.table

-- either the audit was fed each registry, or a range
-- has no registry, or the ranges of one are no partition of its values
abbrev pub IsEither : List Registry → List RegistryRange → Audit → Audit → Bool → Type 0
IsEither registries rows old new true =
    (are_owned registries rows ≡ true)
    × FeedsRows old new (map partition_row (map (partition_of rows) registries))
IsEither registries rows old new false =
    (are_owned registries rows ≡ false)
    ⊎ ¬ AllByRecursion (λ registry. is_partition (partition_of rows registry).table ≡ true) registries

-- why registries and ranges are not fed: memory was refused, or either are not in their order
abbrev pub AreUnfed : Type 0 → List Registry → List RegistryRange → Fault → Type 0
AreUnfed Refused registries rows fault =
    ((fault ≡ Memory) × Refused)
    ⊎ ((fault ≡ Store) × (¬ IsAscending (λ a b. text_cmp a.name b.name) registries
    ⊎ ¬ IsAscending (λ a b. place_cmp (a.registry, a.range.lo) (b.registry, b.range.lo)) rows))

-- and the ranges of the registries come in order
abbrev pub IsFedPartitions : List Registry → List RegistryRange → Audit → Audit → Bool → Type 0
IsFedPartitions registries rows old new fed =
    IsAscending (λ a b. place_cmp (a.registry, a.range.lo) (b.registry, b.range.lo)) rows
    × IsEither registries rows old new fed
