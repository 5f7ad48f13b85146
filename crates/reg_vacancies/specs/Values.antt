-- The values of registries that have entries.
use Rattle.std.specs.Prelude.{ℕ, List, Bool}
use Rattle.std.specs.FinMap.{FinMap}
use Rattle.reg_core.specs.World.{place_cmp}
use Rattle.reg_core.specs.declared.entry.Registration.{Registration}
use Rattle.reg_vacancies.specs.Sets.{TellsEntries, is_member}
use Rattle.reg_vacancies.specs.declared.values.TakenValues.{TakenValues}

-- the value of the registry is taken
unfoldable pub is_taken : TakenValues → List ℕ → ℕ → Bool
is_taken taken registry value = is_member taken.sets registry value

-- what is registered, by registry and value
abbrev pub Entries : Type 0
Entries = FinMap place_cmp Registration

-- the values that are taken are just those at which there are entries
abbrev pub AreTakenBy : TakenValues → Entries → Type 0
AreTakenBy taken entries = TellsEntries (is_taken taken) entries
