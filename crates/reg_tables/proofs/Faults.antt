-- Why a statement is not carried out.
use Rattle.std.proofs.Common.{◌≡◌, ◌⊎◌, inl, inr, ◌≤◌, ℕ, List, false, Ok, Err, Result, Option, None, Some}
use Rattle.std.proofs.Common.{ap, arith, ◌∙◌}
use Rattle.std.specs.Prelude.{IfErr, IsTrue}
use Rattle.std.proofs.lemmas.Bool.{cases_Bool}
use Rattle.sqlite.specs.Clock.{timed}
use Rattle.sqlite.specs.Held.{Held, state}
use Rattle.sqlite.specs.Order.{Row}
use Rattle.sqlite.specs.State.{State, HasCleanDisk, ExecutesIn, ExecutesInside, FailsToQuery, FailsToShow, Fails, HasCause, IsNotRun, IsUnchanged}
use Rattle.sqlite.specs.State.{RunsCommand, shows_rows}
use Rattle.sqlite.specs.declared.error.Error.{Error}
use Rattle.sqlite_resolve.specs.declared.compiled.Compiled.{Compiled}
use Rattle.sqlite_schema.specs.declared.command.Returning.{Returning}
use Rattle.sqlite_trees.specs.declared.error.StoreError.{StoreError}
use Rattle.sqlite_trees.specs.declared.error.StoreError.TheVariants.{OutOfMemory, Broken, Unstorable}
use Rattle.sqlite.specs.Store.{Ghosts}
use Rattle.reg_tables.specs.Faulting.{HasFailed, IsExcused, IsSame}

module _ (old new : State) where
  any_size : (P : Type 0) (cause : StoreError) → HasCause old new P cause
      → HasCause old new (Unit {0}) cause
  any_size P Unstorable h = tt
  any_size P _ h = h

  pub has_failed : (P : Type 0) (e : Error) → Fails old new P e → HasFailed old new e
  has_failed P e f = (f.0, f.1, any_size P f.0 f.2)

  pub is_same : IsUnchanged old new → IsSame old new
  is_same u = (u.0.now_is, u.0.committed_is)

  ran_not : (sql : List ℕ) (c : Compiled) (params : Row) (e : Error)
      → RunsCommand old new sql c params (Err e) → HasFailed old new e ⊎ IsSame old new
  ran_not sql c params e (inl refused) = inr (is_same refused.1)
  ran_not sql c params e (inr failed) = inl (has_failed _ e failed)

  not_run : (sql : List ℕ) (params : Row) (e : Error) → IsNotRun old new sql params e
      → HasFailed old new e ⊎ IsSame old new
  unfolding IsNotRun
  not_run sql params e (inl none) = inr (is_same none.1)
  not_run sql params e (inr failed) = inl (has_failed _ e failed)

  not_executed : (sql : List ℕ) (params : Row) (e : Error)
      → ExecutesIn false sql params old new (Err e) → HasFailed old new e ⊎ IsSame old new
  unfolding ExecutesIn
  not_executed sql params e (inl none) = not_run sql params e none
  not_executed sql params e (inr ran) = elim (cases_Bool (shows_rows false ran.0)) [
    | inl shows ↦ inr (is_same (rw shows at ran.2).1)
    | inr runs ↦ ran_not sql ran.0 (timed params ran.0.formats ran.1.now) e (rw runs at ran.2)
  ]

  -- a statement in a transaction that is not carried out
  pub not_inside : (held : ℕ) (sql : List ℕ) (params : Row) (e : Error)
      → ExecutesInside held sql params old new (Err e) → HasFailed old new e ⊎ IsSame old new
  not_inside held sql params e (inl none) = not_executed sql params e none.0
  not_inside held sql params e (inr ends) = inr (is_same ends.2)

  not_shown : (sql : List ℕ) (c : Compiled) (full : Row) (e : Error) (r : Option Returning)
      → FailsToShow old new sql c full e r → HasFailed old new e ⊎ IsSame old new
  not_shown sql c full e None f = inr (is_same f.3)
  not_shown sql c full e (Some w) f = ran_not sql c full e f

  -- a query that is not carried out
  pub not_queried : (sql : List ℕ) (params : Row) (e : Error) → FailsToQuery sql params old new e
      → HasFailed old new e ⊎ IsSame old new
  unfolding FailsToQuery
  not_queried sql params e (inl none) = not_run sql params e none
  not_queried sql params e (inr f) = not_shown sql f.0 _ e f.0.returning f.2

-- a failure after calls that changed nothing is a failure from their beginning on
pub failed_later : (a b c : State) (e : Error) → IsUnchanged a b → a.faults ≤ b.faults
    → HasFailed b c e ⊎ IsSame b c → HasFailed a c e ⊎ IsSame a c
failed_later a b c e u counts (inr same) =
    inr (same.0 ∙ u.0.now_is, same.1 ∙ u.0.committed_is)
failed_later a b c e u counts (inl f) = inl (f.0, f.1, cause_before f.0 f.2)
  where
    cause_before : (cause : StoreError) → HasCause b c (Unit {0}) cause
        → HasCause a c (Unit {0}) cause
    cause_before OutOfMemory h = h
    cause_before Broken h = absurd (let still = u.0.is_open in cc)
    cause_before Unstorable h = tt
    cause_before _ h = omega (arith, counts, h)

-- why a statement in a transaction, or after its end, is not carried out
pub not_carried : {S : Type 0} (g : Ghosts S) (held : ℕ) (sql : List ℕ) (params : Row)
    (old new : Held S) (r : Result ℕ Error) → (old.in_transaction ≡ false → new ≡ old)
    → (HasCleanDisk (state g new) → IsTrue old.in_transaction
    → ExecutesInside held sql params (state g old) (state g new) r)
    → IfErr r (IsExcused (state g old) (state g new))
not_carried g held sql params old new (Ok n) ended runs = tt
not_carried g held sql params old new (Err e) ended runs =
    λ clean. elim (cases_Bool old.in_transaction) [
      | inl live ↦
          not_inside (state g old) (state g new) held sql params e (runs clean live)
      | inr over ↦
          let same = ended over in
          inr (ap (λ h. (state g h).now) same, ap (λ h. (state g h).committed) same)
    ]
