-- Sets of values, one for each registry.
use Rattle.std.specs.Prelude.{◌≡◌, ℕ, List, Bool, false, ◌||◌, Option, Some, None}
use Rattle.std.specs.BTreeMap.{BTreeMap, get}
use Rattle.std.specs.FinMap.{FinMap, contains_key}
use Rattle.std.specs.Ordering.{eq_by_cmp}
use Rattle.reg_maps.specs.Maps.{text_cmp}
use Rattle.reg_vacancies.specs.Runs.{has}
use Rattle.reg_vacancies.specs.declared.runs.Runs.{Runs}
use Rattle.reg_core.specs.World.{place_cmp}
use Rattle.reg_core.specs.declared.entry.Registration.{Registration}

-- by registry
abbrev pub Sets : Type 0
Sets = BTreeMap (List ℕ) Runs

-- the value is in a set that may be absent
abbrev pub is_in : Option Runs → ℕ → Bool
is_in None value = false
is_in (Some runs) value = has runs value

-- the value is in the registry's set
abbrev pub is_member : Sets → List ℕ → ℕ → Bool
is_member sets registry value = is_in (get text_cmp sets registry) value

-- ---- tests of a registry and a value

-- a test of a registry and a value
abbrev pub Test : Type 0
Test = List ℕ → ℕ → Bool

-- the test holds just where the registry has an entry at the value
abbrev pub TellsEntries : Test → FinMap place_cmp Registration → Type 0
TellsEntries test entries =
    (registry : List ℕ) (value : ℕ) → test registry value ≡ contains_key entries (registry, value)

-- the test holds at one value more of one registry
abbrev pub GainsValue : Test → Test → List ℕ → ℕ → Type 0
GainsValue old new registry value =
    (name : List ℕ) (n : ℕ)
    → new name n ≡ (eq_by_cmp place_cmp (name, n) (registry, value) || old name n)

-- the tests hold at the same values
abbrev pub AreSameTests : Test → Test → Type 0
AreSameTests old new = (name : List ℕ) (n : ℕ) → new name n ≡ old name n
