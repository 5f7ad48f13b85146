-- The laws of vacancies.
use Rattle.std.specs.Prelude.{◌≡◌, IsSome}
use Rattle.std.specs.FinMap.{contains_key, get, insert}
use Rattle.reg_maps.specs.Maps.{update}
use Rattle.reg_blocks.specs.Block.{SizedPrefix}
use Rattle.reg_core.specs.World.{Place}
use Rattle.reg_core.specs.declared.entry.Registration.{Registration}
use Rattle.reg_core.specs.declared.holding.Holder.{Holder}
use Rattle.reg_vacancies.specs.Places.{Blocks}
use Rattle.reg_vacancies.specs.Vacancies.{AreVacancies, OfAll, Pool}
use Rattle.reg_vacancies.specs.Values.{Entries}
use Rattle.reg_vacancies.specs.declared.vacancies.Vacancies.{Vacancies}

-- where there are entries and blocks decides what is free, and not what they say
abbrev pub KeysDecide : Type 0
KeysDecide =
    (vacancies : Vacancies) (entries others : Entries) (pool : Pool) (blocks rest : Blocks)
    → ((place : Place) → contains_key others place ≡ contains_key entries place)
    → ((block : SizedPrefix) → contains_key rest block ≡ contains_key blocks block)
    → AreVacancies vacancies entries pool blocks → AreVacancies vacancies others pool rest

-- an entry in the place of one that stands leaves the vacancies
abbrev pub EntriesAreReplaced : Type 0
EntriesAreReplaced =
    (vacancies : Vacancies) → OfAll vacancies (λ entries pool blocks.
    (place : Place) → IsSome (get entries place) → (row : Registration)
    → AreVacancies vacancies (insert entries place row) pool blocks)

-- so does what is changed in a holder, as a mark
abbrev pub HoldersAreChanged : Type 0
HoldersAreChanged =
    (vacancies : Vacancies) → OfAll vacancies (λ entries pool blocks.
    (block : SizedPrefix) (change : Holder → Holder)
    → AreVacancies vacancies entries pool (update blocks block change))
