-- The rows of a query as values.
use Rattle.std.specs.Prelude.{◌≡◌, ◌⊎◌, ℕ, ◌^◌, ◌-◌, List, [], ◌∷◌, length, map, Bool, true, false, Some, Option, IsSome, MatchOption, Vec}
use Rattle.std.specs.List.{AllByRecursion}
use Rattle.std.specs.declared.alloc.Global.{Global}
use Rattle.sqlite.specs.Given.{HasGiven}
use Rattle.sqlite.specs.Held.{Held, state}
use Rattle.sqlite.specs.Order.{Row}
use Rattle.sqlite.specs.State.{State, HasCleanDisk, IsUnchanged, Shown}
use Rattle.sqlite.specs.declared.error.Error.{Error}
use Rattle.sqlite.specs.declared.error.Error.TheVariants.{SqliteFailure}
use Rattle.sqlite.specs.declared.error.ErrorCode.TheVariants.{OperationInterrupted, OutOfMemory}
use Rattle.sqlite_trees.specs.declared.store.Store.{Ghosts}
use Rattle.reg_keeper.specs.declared.keeper.Fault.{Fault}
use Rattle.reg_keeper.specs.declared.keeper.Fault.TheVariants.{Memory, Store}
use Rattle.reg_tables.specs.Connection.{Works}
use Rattle.reg_tables.specs.Faulting.{IsExcused}
use Rattle.reg_statements.specs.Loading.{ReadAs}

-- what an error of the store is to an office
abbrev pub fault_of : Error → Fault
fault_of (SqliteFailure OutOfMemory) = Memory
fault_of _ = Store

-- a query gave as many rows as a u64 counts
abbrev pub GivesTooMany : {S : Type 0} → Ghosts S → List ℕ → Row → Held S → Type 0
GivesTooMany g sql params conn =
    HasCleanDisk (state g conn) → (rows : List Row) × HasGiven g sql params conn rows
    × (length rows ≡ 2 ^ 64 - 1)

-- Why a query is given up: the library reported the error, memory was refused to a row, or there are
-- too many rows.
abbrev pub IsMet : (Error → Type 0) → Type 0 → Type 0 → Error → Type 0
IsMet Reported Refused TooMany error =
    Reported error ⊎ ((error ≡ SqliteFailure OutOfMemory) × Refused)
    ⊎ ((error ≡ SqliteFailure OperationInterrupted) × TooMany)

-- the error that a fault tells: where it was met, and why the store gave it
pub record IsFault (Met : Error → Type 0) (old new : State) (fault : Fault) : Type 0 where
  pub error : Error
  pub told : fault ≡ fault_of error
  pub met : Met error
  pub cause : IsExcused old new error

-- a fault of the store that a query is: the rows that it shows are not what they have to be
pub record IsMisread (sql : List ℕ) (params : Row) (old new : State) (Reads : List Row → Type 0)
    (fault : Fault) : Type 0 where
  pub told : fault ≡ Store
  pub rows : Works new → (rows : List Row) × Shown sql params old new rows × ¬ Reads rows

-- why a query gives no value: a fault tells the error that was met, or its rows are not what they have
-- to be
abbrev pub IsNotRead : (Error → Type 0) → List ℕ → Row → State → State → (List Row → Type 0) → Fault
    → Type 0
IsNotRead Met sql params old new Reads fault =
    IsFault Met old new fault ⊎ IsMisread sql params old new Reads fault

-- the query changed nothing, and showed rows of which this is so
abbrev pub AnswersBy : List ℕ → Row → State → State → (List Row → Type 0) → Type 0
AnswersBy sql params old new Is =
    IsUnchanged old new × (rows : List Row) × Shown sql params old new rows × Is rows

-- the value of each row, or none where a row has no value
abbrev pub AreRead : {T : Type 0} → (Row → Option T) → List Row → Option (Vec T Global) → Type 0
AreRead of rows values =
    MatchOption values (¬ AllByRecursion (λ row. IsSome (of row)) rows)
    (λ all. map of rows ≡ map Some all.items)

-- the values were taken, one after the other
abbrev pub TakesAll : {T K : Type 0} → (K → T → K → Type 0) → K → List T → K → Type 0
TakesAll Takes start [] now = now ≡ start
TakesAll {K = K} Takes start (value ∷ more) now =
    (next : K) × Takes start value next × TakesAll Takes next more now

-- whether each row has a value, and where each has, the values were taken
abbrev pub AreTaken : {T K : Type 0} → (Row → Option T) → (K → T → K → Type 0) → K → List Row → K
    → Bool → Type 0
AreTaken {T} of Takes start rows now true =
    (values : List T) × ReadAs of rows values × TakesAll Takes start values now
AreTaken of Takes start rows now false = ¬ AllByRecursion (λ row. IsSome (of row)) rows
