-- What is free in an office: values of registries, and places of the pool.
use Rattle.std.specs.Prelude.{◌≡◌, ◌↔◌, Option, IfSome}
use Rattle.std.specs.FinSet.{FinSet}
use Rattle.std.specs.Ordering.{nat_cmp}
use Rattle.reg_core.specs.World.{World}
use Rattle.reg_vacancies.specs.Places.{AreLeftBy, Blocks, pool_in}
use Rattle.reg_vacancies.specs.Values.{AreTakenBy, Entries}
use Rattle.reg_vacancies.specs.declared.places.FreePlaces.{FreePlaces}
use Rattle.reg_vacancies.specs.declared.vacancies.Vacancies.{Vacancies}
use Rattle.reg_vacancies.specs.declared.values.TakenValues.{TakenValues}

-- the values that have entries
unfoldable pub taken_in : Vacancies → TakenValues
taken_in vacancies = vacancies.taken

-- the pool and the free places in it
unfoldable pub free_in : Vacancies → FreePlaces
free_in vacancies = vacancies.places

-- the prefixes that blocks are cut from
abbrev pub Pool : Type 0
Pool = FinSet nat_cmp

-- they are what these entries leave of the values, and these blocks of the places of this pool
pub record AreVacancies (vacancies : Vacancies) (entries : Entries) (pool : Pool)
    (blocks : Blocks) : Type 0 where
  pub taken : AreTakenBy (taken_in vacancies) entries
  pub pooled : pool_in (free_in vacancies) ≡ pool
  pub left : AreLeftBy (free_in vacancies) blocks

-- they are the vacancies of the world's entries, pool and blocks
abbrev pub AreVacanciesOf : World → Vacancies → Type 0
AreVacanciesOf w vacancies = AreVacancies vacancies w.entries w.pool w.blocks

-- so they are, where they are there
abbrev pub MayBeOf : World → Option Vacancies → Type 0
MayBeOf w vacancies = IfSome vacancies (AreVacanciesOf w)

-- it holds of all entries, pools and blocks of which these are the vacancies
abbrev pub OfAll : Vacancies → (Entries → Pool → Blocks → Type 0) → Type 0
OfAll vacancies Holds =
    (entries : Entries) (pool : Pool) (blocks : Blocks)
    → AreVacancies vacancies entries pool blocks → Holds entries pool blocks

-- they are the vacancies of the same
abbrev pub AreSame : Vacancies → Vacancies → Type 0
AreSame old new =
    (entries : Entries) (pool : Pool) (blocks : Blocks)
    → AreVacancies new entries pool blocks ↔ AreVacancies old entries pool blocks
