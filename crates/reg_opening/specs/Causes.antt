-- Why an opening is given up.
use Rattle.std.specs.Prelude.{◌≡◌, ◌⊎◌, ℕ, ◌^◌, ◌-◌, List, [], length, map}
use Rattle.sqlite.specs.Effect.{Database}
use Rattle.sqlite.specs.Given.{HasGiven}
use Rattle.sqlite.specs.Held.{Held, state}
use Rattle.sqlite.specs.Order.{Row, column}
use Rattle.sqlite.specs.State.{State, Shown}
use Rattle.sqlite.specs.declared.error.Error.{Error}
use Rattle.sqlite_trees.specs.declared.store.Store.{Ghosts}
use Rattle.reg_keeper.specs.declared.keeper.Fault.{Fault}
use Rattle.reg_keeper.specs.declared.keeper.Fault.TheVariants.{Memory, Store}
use Rattle.reg_records.specs.Columns.{int_in}
use Rattle.reg_tables.specs.Connection.{Works}
use Rattle.reg_statements.specs.Reading.{fault_of}
use Rattle.reg_opening.specs.Numbered.{IsRising}

-- what is asked of the rows that a query shows, by its text, is not so of these
abbrev pub Misorders : Type 1
Misorders = List ℕ → List Row → Type 0

-- a query of these tables shows rows in another order than that in which it has to
pub record ShowsMisordered {S : Type 0} (g : Ghosts S) (Misordered : Misorders) (db : Database)
    : Type 0 where
  pub sql : List ℕ
  pub rows : List Row
  pub from : Held S
  pub upto : Held S
  pub seen : (state g from).now ≡ db
  pub shown : Shown sql [] (state g from) (state g upto) rows
  pub misordered : Misordered sql rows

-- a query of these tables gave as many rows as a u64 counts
pub record GaveTooMany {S : Type 0} (g : Ghosts S) (db : Database) : Type 0 where
  pub sql : List ℕ
  pub rows : List Row
  pub conn : Held S
  pub seen : (state g conn).now ≡ db
  pub given : HasGiven g sql [] conn rows
  pub count : length rows ≡ 2 ^ 64 - 1

-- the fault tells an error that was reported
abbrev pub TellsError : (Error → Type 0) → Fault → Type 0
TellsError Reported fault = (error : Error) × (fault ≡ fault_of error) × Reported error

-- Why a fault is told of a store that is read: the library reported the error that it tells; memory was
-- refused; or the store gave rows in another order, or more than can be.
pub record HasCause {S : Type 0} (Reported : Error → Type 0) (Refused : Type 0) (Misordered : Misorders)
    (g : Ghosts S) (old new : State) (fault : Fault) : Type 0 where
  pub why : TellsError Reported fault ⊎ ((fault ≡ Memory) × Refused)
      ⊎ ((fault ≡ Store) × (Works new → ShowsMisordered g Misordered old.now ⊎ GaveTooMany g old.now))

-- the rowids that stand behind so many columns do not rise
abbrev pub AreUnrisen : ℕ → List Row → Type 0
AreUnrisen width rows = ¬ IsRising (map (λ row. int_in (column row width)) rows)
