-- What is wrong with a store in which no office is found.
use Rattle.std.specs.Prelude.{◌≡◌, false, true}
use Rattle.sqlite.specs.State.{State}
use Rattle.reg_keeper.specs.declared.keeper.Fault.{Fault as Given}
use Rattle.reg_keeper.specs.declared.keeper.Fault.TheVariants as faults
use Rattle.reg_tables.specs.Version.{IsOther}
use Rattle.reg_opening.specs.Opening.{IsFlawIn, IsOfVersion}
use Rattle.reg_opening.specs.declared.flaw.Flaw.TheVariants.{Rows}
use Rattle.reg_opening.specs.declared.flaw.RowFlaw.TheVariants.{Unkept}
use Rattle.reg_sql.specs.Opening.{IsRefusedOf}
use Rattle.reg_sql.specs.declared.open.OpenFault.{OpenFault}
use Rattle.reg_sql.specs.declared.open.OpenFault.TheVariants as refusals
use Rattle.reg_sql.specs.declared.trouble.Trouble.{Trouble}
use Rattle.reg_sql.specs.declared.trouble.Trouble.TheVariants.{NoFile, Unreadable, Special, Busy, Unsteady, Journal, NoDatabase, InTransaction, Version, NotOurs, Memory, Store}

-- what a fault is to who looks into a store
abbrev pub fault_trouble : Given → Trouble
fault_trouble faults.Memory = Memory
fault_trouble faults.Store = Store

-- and what a refusal of the store is
abbrev pub refused_trouble : OpenFault → Trouble
refused_trouble (refusals.Version n) = Version n
refused_trouble refusals.Busy = Busy
refused_trouble refusals.NotOurs = NotOurs (Rows Unkept)
refused_trouble (refusals.Fault fault) = fault_trouble fault

-- how an opening for another job says what is wrong
abbrev pub opening_fault : Trouble → OpenFault
opening_fault NoFile = refusals.NotOurs
opening_fault Unreadable = refusals.NotOurs
opening_fault Special = refusals.NotOurs
opening_fault Busy = refusals.Busy
opening_fault Unsteady = refusals.Busy
opening_fault Journal = refusals.NotOurs
opening_fault NoDatabase = refusals.NotOurs
opening_fault InTransaction = refusals.NotOurs
opening_fault (Version n) = refusals.Version n
opening_fault (NotOurs flaw) = refusals.NotOurs
opening_fault Memory = refusals.Fault faults.Memory
opening_fault Store = refusals.Fault faults.Store

-- a store is given up as it is refused, and left as it was
pub record OpeningIsGivenUp (old new : State) (trouble : Trouble) : Type 0 where
  pub refusal : OpenFault
  pub told : trouble ≡ refused_trouble refusal
  pub refused : IsRefusedOf false refusal old new

-- what is wrong with a store: a transaction is open on it; it says a version that is not known; it is
-- no office's, and the condition that is told fails; or there was a fault
abbrev pub IsTrouble : State → Trouble → Type 0
IsTrouble s InTransaction = s.in_transaction ≡ true
IsTrouble s (Version n) = IsOfVersion n s.now × IsOther n
IsTrouble s (NotOurs flaw) = IsFlawIn s.now flaw
IsTrouble s Memory = Unit {0}
IsTrouble s Store = Unit {0}
IsTrouble s _ = ⊥
