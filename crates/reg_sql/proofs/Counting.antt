-- What stands beside the tables, as a change with its acts leaves it.
use Rattle.std.proofs.Common.{◌≡◌, ℕ, ◌+◌, List, length, Result, Ok, Err, sym, ap, subst, ◌∙◌, arith}
use Rattle.std.specs.Prelude.{Option, Some, None}
use Rattle.sqlite.specs.Effect.{Database}
use Rattle.sqlite.specs.State.{State}
use Rattle.reg_tables.specs.Connection.{Holds}
use Rattle.reg_core.specs.WellKept.{WellKept, CanApply}
use Rattle.reg_core.specs.Journal.{with_acts}
use Rattle.reg_core.specs.World.{World, applied}
use Rattle.reg_core.specs.declared.change.Change.{Change}
use Rattle.reg_core.specs.declared.journal.Act.{Act}
use Rattle.reg_core.proofs.Keeping.OtherMaps.{with_journal}
use Rattle.reg_keeper.specs.Keeper.{applied_with}
use Rattle.reg_statements.specs.Content.{content_of, world_in}
use Rattle.reg_vacancies.specs.Vacancies.{MayBeOf}
use Rattle.reg_vacancies.specs.declared.vacancies.Vacancies.{Vacancies}
use Rattle.reg_rows.specs.Calls.{Alters}
use Rattle.reg_rows.proofs.Journaled.{with_acts-length}
use Rattle.reg_sql.specs.Keeping.{CountsTo}

-- where it is made, there are as many acts more
pub counts_on : {E : Type 0} {old new : State} (change : Change) (acts : List Act)
    (last number : ℕ) → Alters {T = ℕ} {E = E} old new (Ok number) (λ w. applied_with acts w change)
    → CountsTo last old → number ≡ last + length acts → CountsTo number new
counts_on {old = old} {new = new} change acts last number it counts is h =
    let was : last ≡ length (world_in old).journal = counts (it.held h) in
    let now : length (world_in new).journal ≡ length (with_acts acts (world_in old).journal) =
    ap (λ (w : World). length w.journal) (it.made h) in
    omega (arith, is, was, now, with_acts-length acts (world_in old).journal)

-- where it is not, there are as many as there were
pub counts_still : {T E : Type 0} {old new : State} {error : E} {changed : World → World}
    (last : ℕ) → Alters {T = T} old new (Err error) changed → CountsTo last old → CountsTo last new
counts_still last it counts h =
    counts (it.held h) ∙ ap (λ (db : Database). length (content_of db).journal) (sym (it.kept h))

-- what is free after a change is free after its acts
pub follows_with : (w v : World) (acts : List Act) (change : Change) (vacancies : Option Vacancies)
    → v ≡ applied_with acts w change → MayBeOf (applied w change) vacancies → MayBeOf v vacancies
follows_with w v acts change None is may = may
follows_with w v acts change (Some free) is may = subst (λ v. MayBeOf v (Some free)) (sym is) may

-- and what is well kept is well kept after them
pub well_with : (w v : World) (acts : List Act) (change : Change) → v ≡ applied_with acts w change
    → CanApply w change → WellKept v
well_with w v acts change is can =
    subst WellKept (sym is) (with_journal (applied w change) can.1 (with_acts acts w.journal))

-- whether it is made or not, what was well kept is
pub stays_well : {T E : Type 0} {old new : State} {result : Result T E} (change : Change)
    (acts : List Act) → Alters old new result (λ w. applied_with acts w change)
    → (Holds old → WellKept (world_in old)) → (Holds old → CanApply (world_in old) change)
    → Holds new → WellKept (world_in new)
stays_well {old = old} {new = new} {result = Ok x} change acts it well fits h =
    well_with (world_in old) (world_in new) acts change (it.made h) (fits (it.held h))
stays_well {result = Err e} change acts it well fits h =
    subst (λ (db : Database). WellKept (content_of db)) (sym (it.kept h)) (well (it.held h))
