-- What a call leaves of a connection to an office's store.
use Rattle.std.specs.Prelude.{◌≡◌, ◌⊎◌, [], false, Result, IfOk, IsTrue, OnOk, OnErr}
use Rattle.sqlite.specs.Effect.{Database}
use Rattle.sqlite.specs.State.{State, HasCleanDisk, IsRolledBack, IsUnchanged, KeepsCommit, KeepsCounts, Shows}
use Rattle.sqlite.specs.Steps.{FailsToCommit}
use Rattle.sqlite.specs.declared.error.Error.{Error}
use Rattle.reg_core.specs.World.{World}
use Rattle.reg_keeper.specs.declared.keeper.Fault.{Fault}
use Rattle.reg_tables.specs.Connection.{Endures, Holds, HoldsOn, IsIdle, Stays, WentOn}
use Rattle.reg_statements.specs.Content.{IsStored, content_of, parts_of, world_in}
use Rattle.reg_statements.specs.Parts.{Parts}
use Rattle.reg_statements.specs.Reading.{fault_of}

-- no transaction is open, and what was committed are the rows of an office
pub record IsKeeping (s : State) : Type 0 where
  pub idle : IsIdle s
  pub stored : Holds s → IsStored s.now

-- A call that only looks. What it gives is true of what is seen of the rows, which stay as they were.
pub record LooksAt {W T E : Type 0} (seen : Database → W) (old new : State) (result : Result T E)
    (Gives : W → T → Type 0) : Type 0 where
  pub keeping : IsKeeping new
  pub endures : Endures old new
  pub stays : Stays old new
  pub on : HoldsOn old new
  pub value : Holds new → IfOk result (Gives (seen old.now))

-- of the content of the office
abbrev pub Looks : {T E : Type 0} → State → State → Result T E → (World → T → Type 0) → Type 0
Looks old new result Gives = LooksAt content_of old new result Gives

-- of the parts that its tables are
abbrev pub LooksIn : {T E : Type 0} → State → State → Result T E → (Parts → T → Type 0) → Type 0
LooksIn old new result Gives = LooksAt parts_of old new result Gives

-- A call that makes a change. The content is changed whole, or at a fault stays as it was.
pub record Alters {T E : Type 0} (old new : State) (result : Result T E)
    (changed : World → World) : Type 0 where
  pub keeping : IsKeeping new
  pub endures : Endures old new
  pub held : Holds new → Holds old
  pub on : HoldsOn old new
  pub made : Holds new → OnOk result (world_in new ≡ changed (world_in old))
  pub kept : Holds new → OnErr result (new.now ≡ old.now)

-- where the rows are an office's that the write fits, what is seen of them is changed after it
abbrev pub TurnsAt : {W : Type 0} → (Database → W) → (W → Type 0) → (W → W) → Database → Database
    → Type 0
TurnsAt seen Fits changed old new =
    IsStored old → Fits (seen old) → IsStored new × (seen new ≡ changed (seen old))

-- What a write inside a transaction leaves. The last commit stands; where it went through, it is
-- done to what the transaction sees, and whatever tables there are, they have the same definitions.
pub record StepsAt {W T E : Type 0} (seen : Database → W) (old new : State) (result : Result T E)
    (Fits : W → Type 0) (changed : W → W) : Type 0 where
  pub endures : Endures old new
  pub kept : HasCleanDisk new → KeepsCommit old new
  pub went : HasCleanDisk new → OnOk result (WentOn old new)
  pub tables : HasCleanDisk new → OnOk result (new.now.schema ≡ old.now.schema)
  pub turns : HasCleanDisk new → OnOk result (TurnsAt seen Fits changed old.now new.now)

-- a write in a transaction
abbrev pub Steps : {T E : Type 0} → State → State → Result T E → (World → Type 0)
    → (World → World) → Type 0
Steps old new result Fits changed = StepsAt content_of old new result Fits changed

-- to the parts that its tables are
abbrev pub StepsIn : {T E : Type 0} → State → State → Result T E → (Parts → Type 0)
    → (Parts → Parts) → Type 0
StepsIn old new result Fits changed = StepsAt parts_of old new result Fits changed

-- The library's error that a fault tells of a commit, and why it gave that: there was no memory, the
-- device failed, a failure had shut the store, or no transaction was open any more.
pub record IsUncommitted (old new : State) (fault : Fault) : Type 0 where
  pub error : Error
  pub told : fault ≡ fault_of error
  pub cause : HasCleanDisk new → FailsToCommit old new error

-- a transaction was committed: what it saw is shown and kept outside of it, and all else is as it was
abbrev pub IsCommitted : State → State → Type 0
IsCommitted old new =
    IsTrue old.in_transaction × Shows old new old.now old.now false × KeepsCounts old new
    × (new.marks ≡ [])

-- it was rolled back, or none was open and nothing is changed
abbrev pub IsUndone : State → State → Type 0
IsUndone old new =
    IsRolledBack old new ⊎ ((old.in_transaction ≡ false) × IsUnchanged old new)
