-- The files of the folder `registries`, by their names, and whether a history has a registry for each.
use Rattle.std.specs.Prelude.{◌≡◌, ◌⊎◌, true, false, List, ℕ, ◌++◌, Option, Some, None, All, Contains, IsSome, codes}
use Rattle.std.specs.BTreeMap.{BTreeMap}
use Rattle.std.specs.BTreeMap.Range.{IsLeBy}
use Rattle.reg_core.specs.Names.{is_name}
use Rattle.reg_changes.specs.Replay.{Said}
use Rattle.reg_changes.specs.Said.{said_by}
use Rattle.reg_changes.specs.Subjects.{subject_cmp}
use Rattle.reg_changes.specs.declared.change.Class.TheVariants as class
use Rattle.reg_changes.specs.declared.change.Details.{Details}
use Rattle.reg_changes.specs.declared.change.Subject.{Subject}

-- where it is known which files a folder has: those of its folder `registries` have these names
abbrev pub Lists : {F : Type 0} → Type 0 → (F → List (List ℕ)) → F → List (List ℕ) → Type 0
Lists Tells listed folder files = Tells → listed folder ≡ files

-- ---- One file

-- a file of this name is the JSON or the listing of the registry of that name
abbrev pub IsOfRegistry : List ℕ → List ℕ → Type 0
IsOfRegistry file name = (file ≡ name ++ codes ".json") ⊎ (file ≡ name ++ codes ".csv")

-- the registry of which a file of this name is the JSON or the listing; none where it is neither
abbrev pub IsRegistryOf : List ℕ → Option (List ℕ) → Type 0
IsRegistryOf file None = (name : List ℕ) → ¬ IsOfRegistry file name
IsRegistryOf file (Some name) =
    IsOfRegistry file name × ((other : List ℕ) → IsOfRegistry file other → other ≡ name)

-- the range of a registry with this value
abbrev pub range_at : List ℕ → List ℕ → Subject
range_at name value = record { registry = name; class = class.Range; value = value }

-- the history has the registry of this name, since it has a range of it
abbrev pub HasRegistry : Said → List ℕ → Type 0
HasRegistry said name = (value : List ℕ) × IsSome (said (range_at name value))

-- each registry of the history has a name
abbrev pub AllHaveNames : Said → Type 0
AllHaveNames said = (name : List ℕ) → HasRegistry said name → is_name name ≡ true

-- the history has a registry whose name is none
abbrev pub HasNameless : Said → Type 0
HasNameless said = (name : List ℕ) × HasRegistry said name × (is_name name ≡ false)

-- a file of this name is of no other registry than those of the history
abbrev pub IsKnown : Said → List ℕ → Type 0
IsKnown said file = (name : List ℕ) → IsOfRegistry file name → HasRegistry said name

-- it is of a registry that the history does not have
abbrev pub IsStray : Said → List ℕ → Type 0
IsStray said file = (name : List ℕ) × IsOfRegistry file name × (¬ HasRegistry said name)

-- ---- All of them

-- one of these files that is stray; none where each is known
abbrev pub IsStrayOf : Said → List (List ℕ) → Option (List ℕ) → Type 0
IsStrayOf said files None = All (IsKnown said) files
IsStrayOf said files (Some file) = Contains files file × IsStray said file

-- no file of the folder is stray
abbrev pub HasNoStray : (List (List ℕ) → Type 0) → Said → Type 0
HasNoStray Names said =
    (files : List (List ℕ)) × Names files × All (IsKnown said) files

-- this file of the folder is stray
abbrev pub HasStray : (List (List ℕ) → Type 0) → Said → List ℕ → Type 0
HasStray Names said file =
    (files : List (List ℕ)) × Names files × Contains files file × IsStray said file

-- a stray file of the folder; none where it has none
abbrev pub TellsStray : (List (List ℕ) → Type 0) → Said → Option (List ℕ) → Type 0
TellsStray Names said None = HasNoStray Names said
TellsStray Names said (Some file) = HasStray Names said file

-- ---- Looked up

-- a subject is a range of the registry of this name
abbrev pub IsRegistryRange : List ℕ → Subject → Type 0
IsRegistryRange name subject = (subject.class ≡ class.Range) × (subject.registry ≡ name)

-- the first subject from this one on of which something was said; none where there is none
abbrev pub IsFirstFrom : BTreeMap Subject Details → Subject → Option Subject → Type 0
IsFirstFrom map from None =
    (other : Subject) → IsSome (said_by map other) → ¬ IsLeBy subject_cmp from other
IsFirstFrom map from (Some first) =
    IsSome (said_by map first) × IsLeBy subject_cmp from first
    × ((other : Subject) → IsSome (said_by map other) → IsLeBy subject_cmp from other
    → IsLeBy subject_cmp first other)
