-- Why a store gives an error.
use Rattle.std.specs.Prelude.{◌≡◌, ◌⊎◌}
use Rattle.sqlite.specs.Effect.{Database}
use Rattle.sqlite.specs.State.{State, HasCause, HasCleanDisk, store_error}
use Rattle.sqlite.specs.declared.error.Error.{Error}
use Rattle.sqlite_trees.specs.declared.error.StoreError.{StoreError}

-- It had no memory, its device failed in this call, a failure had shut it before, or what it was to
-- hold is too big: which of them it is, the error says.
abbrev pub HasFailed : State → State → Error → Type 0
HasFailed old new error =
    (cause : StoreError) × (error ≡ store_error cause) × HasCause old new (Unit {0}) cause

-- what is seen and what was committed are as they were
abbrev pub IsSame : State → State → Type 0
IsSame old new = (new.now ≡ old.now) × (new.committed ≡ old.committed)

-- the store failed, or it refused what was asked, and all is as it was
abbrev pub IsExcused : State → State → Error → Type 0
IsExcused old new error = HasCleanDisk new → HasFailed old new error ⊎ IsSame old new

-- A transaction was given up: the library reported the error of a statement, or all was done, and then
-- not committed.
abbrev pub IsGivenUp : (Error → Type 0) → (Database → Type 0) → State → Error → Type 0
IsGivenUp Reported Done new error =
    Reported error ⊎ (HasCleanDisk new → (seen : Database) × Done seen)
