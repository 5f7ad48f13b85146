-- The vacancies of an office, made of its rows as they are read.
use Rattle.std.proofs.Common.{◌≡◌, ℕ, ◌+◌, ◌-◌, ◌<◌, List, [], ◌∷◌, ◌++◌, length, take, get_or, sym, ap, subst, ◌∙◌, arith}
use Rattle.std.specs.Prelude.{All, Contains, Option, Some, Result, Ok, IfOk, option_and_then}
use Rattle.std.specs.FinMap.{contains_key, get, keys}
use Rattle.std.specs.FinSet.{FinSet}
use Rattle.std.specs.Ordering.{nat_cmp}
use Rattle.std.proofs.lemmas.List.{take_all, take_more}
use Rattle.sqlite.specs.Effect.{Database}
use Rattle.sqlite.specs.State.{State}
use Rattle.reg_blocks.specs.Block.{leading_24}
use Rattle.reg_ranges.specs.FreeValues.{least_value}
use Rattle.reg_ranges.specs.Tables.{Table}
use Rattle.reg_ranges.specs.declared.policy.Policy.{Policy}
use Rattle.reg_core.specs.Holding.{listed_rows, masked_blocks}
use Rattle.reg_core.specs.LeastFree.{least_free_in, values_in}
use Rattle.reg_core.specs.Page.{entry_rows}
use Rattle.reg_core.specs.WellKept.{WellKept}
use Rattle.reg_core.specs.World.{Place, World}
use Rattle.reg_core.specs.declared.entry.Entry.{Entry}
use Rattle.reg_core.specs.declared.holding.Listed.{Listed}
use Rattle.reg_vacancies.specs.Pool.{prefix_set}
use Rattle.reg_vacancies.specs.Vacancies.{AreVacancies, OfAll, Pool, AreVacanciesOf}
use Rattle.reg_vacancies.specs.Values.{Entries}
use Rattle.reg_vacancies.specs.declared.vacancies.Vacancies.{Vacancies}
use Rattle.reg_vacancies.proofs.Carrying.{keys_decide}
use Rattle.reg_tables.specs.Connection.{Holds}
use Rattle.reg_tables.proofs.Enduring.{endures_then, holds_then}
use Rattle.reg_tables.proofs.RestLemmas.{stays_held, stays_same, stays_then}
use Rattle.reg_rows.specs.Calls.{Looks, LooksAt}
use Rattle.reg_statements.specs.Content.{content_of, world_in}
use Rattle.reg_sql.specs.Listed.{given, registrations}
use Rattle.reg_sql.proofs.ListedRows.{each_in_pool, given_listed, prefixes_listed, registrations_listed}

-- ---- Calls that look, one after the other

-- the second of two calls looks at what the first one did
pub looks_next : {W T U D E : Type 0} {seen : Database → W} {a b c : State} {first : Result T D}
    {second : Result U E} {Was : W → T → Type 0} {Gives : World → U → Type 0}
    → LooksAt seen a b first Was → Looks b c second Gives → Looks a c second Gives
looks_next {a = a} {b = b} {c = c} {second = second} {Gives = Gives} one two = record {
  keeping = two.keeping;
  endures = endures_then a b c one.endures two.endures;
  stays = stays_then a b c one.stays two.stays;
  on = holds_then a b c two.endures one.on two.on;
  value = λ h. subst (λ db. IfOk second (Gives (content_of db)))
      (stays_same one.stays (stays_held two.stays h)) (two.value h);
}

-- after a call that looked, another answer
pub looks_so : {T U D E : Type 0} {a b : State} {first : Result T D} {second : Result U E}
    {Was : World → T → Type 0} {Gives : World → U → Type 0}
    → Looks a b first Was → (Holds b → IfOk second (Gives (world_in a)))
    → Looks a b second Gives
looks_so one value = record {
  keeping = one.keeping;
  endures = one.endures;
  stays = one.stays;
  on = one.on;
  value = value;
}

-- ---- The rows

-- a list is what comes before its last, and that one
pub is_parted : (xs : List ℕ) → 0 < length xs
    → xs ≡ take (length xs - 1) xs ++ get_or xs (length xs - 1) 0 ∷ []
is_parted xs some =
    sym (take_all (length xs - 1 + 1) xs (omega arith))
    ∙ take_more xs (length xs - 1) 0 (omega arith)

module _ (w : World) where
  -- the blocks that are listed lie in the pool that is listed
  pub listed_in_pool : WellKept w → (prefixes : List ℕ) (rows : List Listed)
      → prefixes ≡ keys w.pool → rows ≡ listed_rows (masked_blocks w.blocks)
      → All (λ (row : Listed). Contains (keys (prefix_set prefixes)) (leading_24 row.block)) rows
  listed_in_pool kept prefixes rows pool blocks =
      let same : prefix_set prefixes ≡ w.pool = ap prefix_set pool ∙ prefixes_listed w.pool in
      subst (λ (set : FinSet nat_cmp).
      All (λ (row : Listed). Contains (keys set) (leading_24 row.block)) rows) (sym same)
      (subst (All (λ (row : Listed). Contains (keys w.pool) (leading_24 row.block))) (sym blocks)
      (each_in_pool w.blocks w.pool kept.in_pool))

  -- what they leave are the vacancies, whatever the entries at these values are
  pub listed_leave : (vacancies : Vacancies) (entries : List Entry) (prefixes : List ℕ)
      (rows : List Listed) (m : Entries)
      → ((place : Place) → contains_key w.entries place ≡ contains_key m place)
      → entries ≡ entry_rows m → prefixes ≡ keys w.pool
      → rows ≡ listed_rows (masked_blocks w.blocks)
      → AreVacancies vacancies (registrations entries) (prefix_set prefixes) (given rows)
      → AreVacanciesOf w vacancies
  listed_leave vacancies entries prefixes rows m keyed registered pool blocks are =
      let all : registrations entries ≡ m = ap registrations registered ∙ registrations_listed m in
      let same : prefix_set prefixes ≡ w.pool = ap prefix_set pool ∙ prefixes_listed w.pool in
      let shown = listed_rows (masked_blocks w.blocks) in
      keys_decide vacancies m w.entries w.pool (given shown) w.blocks keyed
      (λ block. sym (given_listed w.blocks block))
      (subst (λ (m : Entries). AreVacancies vacancies m w.pool (given shown)) all
      (subst (λ (set : Pool). AreVacancies vacancies (registrations entries) set (given shown)) same
      (subst (λ (rows : List Listed).
      AreVacancies vacancies (registrations entries) (prefix_set prefixes) (given rows)) blocks
      are)))

-- ---- The least value

-- what is least by the vacancies, and the ranges that were found, is the least of the registry
pub least_told : {E : Type 0} {a b c : State} {found : Option Table} {vacancies : Vacancies}
    (registry : List ℕ) (policy : Policy) (table : Table) (least : Option ℕ)
    → Looks {E = E} a b (Ok found) (λ w table. table ≡ get w.registries registry)
    → found ≡ Some table → Looks {E = E} b c (Ok vacancies) AreVacanciesOf
    → OfAll vacancies (λ entries pool blocks.
    least ≡ least_value table policy (values_in registry entries))
    → Holds c → least ≡ least_free_in (world_in a).registries (world_in a).entries registry policy
least_told {a = a} {vacancies = vacancies} registry policy table least ranges is free gives h =
    let w = world_in a in
    let held = stays_held free.stays h in
    let there : get w.registries registry ≡ Some table = sym (ranges.value held) ∙ is in
    let are : AreVacanciesOf w vacancies =
    subst (λ db. AreVacanciesOf (content_of db) vacancies) (stays_same ranges.stays held)
    (free.value h) in
    gives w.entries w.pool w.blocks are
    ∙ sym (ap (option_and_then (λ table. least_value table policy (values_in registry w.entries)))
    there)
