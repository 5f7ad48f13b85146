-- Why an opening fails, by the calls that it is made of.
use Rattle.std.proofs.Common.{◌≡◌, Bool, false, inl, inr, subst, sym, true≢false}
use Rattle.std.specs.Prelude.{Result, Ok, Err, IfErr}
use Rattle.sqlite.specs.Effect.{Database}
use Rattle.sqlite.specs.State.{State}
use Rattle.sqlite.specs.declared.error.Error.{Error}
use Rattle.sqlite_trees.specs.declared.store.Store.{Ghosts}
use Rattle.reg_keeper.specs.declared.keeper.Fault.{Fault as Given}
use Rattle.reg_keeper.specs.declared.keeper.Fault.TheVariants as faults
use Rattle.reg_tables.specs.Connection.{Stays, Works}
use Rattle.reg_tables.specs.Faulting.{IsGivenUp}
use Rattle.reg_statements.specs.Reading.{fault_of}
use Rattle.reg_opening.proofs.Causes.{cause_later}
use Rattle.reg_sql.specs.Failing.{IsCaused, IsFailed, HadToWrite}
use Rattle.reg_sql.specs.Troubles.{fault_trouble, refused_trouble}
use Rattle.reg_sql.specs.declared.open.OpenFault.{OpenFault}
use Rattle.reg_sql.specs.declared.open.OpenFault.TheVariants as refusals
use Rattle.reg_sql.specs.declared.trouble.Trouble.{Trouble}
use Rattle.reg_sql.specs.declared.trouble.Trouble.TheVariants as troubles

module _ {S : Type 0} (g : Ghosts S) (Reported : Error → Type 0) (Refused : Type 0) where
  -- what was to be made was given up
  pub given_up : (fresh : Bool) (old new : State) (Done : Database → Type 0) (error : Error) (fault : Given)
      → fault ≡ fault_of error
      → (Works new → (seen : Database) → Done seen → HadToWrite fresh old.now seen)
      → IsGivenUp Reported Done new error
      → IsFailed Reported Refused g fresh old new (refusals.Fault fault)
  given_up fresh old new Done error fault told made (inl reported) =
      inl (record { why = inl (error, told, reported) })
  given_up fresh old new Done error fault told made (inr done) =
      inr (
        error,
        told,
        λ works. let seen = done works.clean in (seen.0, made works seen.0 seen.1),
      )

  -- what is made where no new office is wanted
  unwanted : (fresh : Bool) (old seen : Database) → HadToWrite false old seen → HadToWrite fresh old seen
  unwanted fresh old seen (inl founded) = absurd (true≢false (sym founded.wanted))
  unwanted fresh old seen (inr brought) = inr brought

  -- after the store was read, and no office was founded in it
  later : (fresh : Bool) (old mid new : State) (refusal : OpenFault) → Stays old mid
      → (Works new → Works mid) → (Works new → new.now ≡ mid.now)
      → IsFailed Reported Refused g false mid new refusal
      → IsFailed Reported Refused g fresh old new refusal
  later fresh old mid new refusals.Busy first worked same failed = absurd failed
  later fresh old mid new (refusals.Fault fault) first worked same (inl stopped) =
      inl (cause_later old mid new fault first (record { worked = worked; unchanged = same }) stopped)
  later fresh old mid new (refusals.Fault fault) first worked same (inr unkept) =
      inr (
        unkept.0,
        unkept.1,
        λ works.
            let seen = unkept.2 works in (
              seen.0,
              unwanted fresh old.now seen.0
                  (subst (λ db. HadToWrite false db seen.0) (first.unchanged (worked works)) seen.1),
            ),
      )
  later fresh old mid new _ first worked same failed = tt

  pub failed_later : {A : Type 0} (fresh : Bool) (old mid new : State) (result : Result A OpenFault)
      → Stays old mid → (Works new → Works mid)
      → (Works new → IfErr result (λ refusal. new.now ≡ mid.now))
      → IfErr result (IsFailed Reported Refused g false mid new)
      → IfErr result (IsFailed Reported Refused g fresh old new)
  failed_later fresh old mid new (Ok a) first worked same failed = tt
  failed_later fresh old mid new (Err refusal) first worked same failed =
      later fresh old mid new refusal first worked same failed

  -- ---- Of a store that is looked into

  pub caused_by_fault : (old new : State) (fault : Given)
      → IsFailed Reported Refused g false old new (refusals.Fault fault)
      → IsCaused Reported Refused g old new (fault_trouble fault)
  caused_by_fault old new faults.Memory failed = failed
  caused_by_fault old new faults.Store failed = failed

  pub caused_by_refusal : (old new : State) (refusal : OpenFault)
      → IsFailed Reported Refused g false old new refusal
      → IsCaused Reported Refused g old new (refused_trouble refusal)
  caused_by_refusal old new (refusals.Fault fault) failed = caused_by_fault old new fault failed
  caused_by_refusal old new _ failed = tt

  pub caused_later : (old mid new : State) (trouble : Trouble) → Stays old mid
      → (Works new → Works mid) → (Works new → new.now ≡ mid.now)
      → IsCaused Reported Refused g mid new trouble → IsCaused Reported Refused g old new trouble
  caused_later old mid new troubles.Memory first worked same caused =
      later false old mid new (refusals.Fault faults.Memory) first worked same caused
  caused_later old mid new troubles.Store first worked same caused =
      later false old mid new (refusals.Fault faults.Store) first worked same caused
  caused_later old mid new _ first worked same caused = tt
