-- The values of a registry that have entries, and the least that has none.
use Rattle.std.specs.Prelude.{ℕ, List, map, Option, option_and_then}
use Rattle.std.specs.FinMap.{FinMap, get, entries}
use Rattle.reg_maps.specs.Maps.{text_cmp}
use Rattle.reg_ranges.specs.FreeValues.{least_value}
use Rattle.reg_ranges.specs.Tables.{Table}
use Rattle.reg_ranges.specs.declared.policy.Policy.{Policy}
use Rattle.reg_core.specs.View.{entries_of}
use Rattle.reg_core.specs.World.{place_cmp}
use Rattle.reg_core.specs.declared.entry.Registration.{Registration}

-- the values of a registry that have entries, ascending
abbrev pub values_in : List ℕ → FinMap place_cmp Registration → List ℕ
values_in registry m = map (λ e. e.0.1) (entries (entries_of registry m))

-- the least value of a registry that lies under the policy and has no entry, if there is the
-- registry and such a value
abbrev pub least_free_in : FinMap text_cmp Table → FinMap place_cmp Registration → List ℕ → Policy
    → Option ℕ
least_free_in registries m registry policy =
    option_and_then (λ table. least_value table policy (values_in registry m))
    (get registries registry)
