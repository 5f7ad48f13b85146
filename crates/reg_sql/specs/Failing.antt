-- Why an opening of an office tells a fault.
use Rattle.std.specs.Prelude.{◌≡◌, ◌≢◌, ◌⊎◌, Bool, false, true, Option, Some, None, Result, Ok, Err}
use Rattle.sqlite.specs.Effect.{Database}
use Rattle.sqlite.specs.Held.{Held, state}
use Rattle.sqlite.specs.State.{State}
use Rattle.sqlite.specs.declared.error.Error.{Error}
use Rattle.sqlite_trees.specs.declared.store.Store.{Ghosts}
use Rattle.reg_keeper.specs.declared.keeper.Fault.{Fault as Given}
use Rattle.reg_keeper.specs.declared.keeper.Fault.TheVariants as faults
use Rattle.reg_tables.specs.Connection.{Works}
use Rattle.reg_tables.specs.Having.{AreFree, GainsTables}
use Rattle.reg_tables.specs.Making.{Founds}
use Rattle.reg_tables.specs.Version.{later_than, newest}
use Rattle.reg_tables.specs.declared.version.Version.{Version}
use Rattle.reg_statements.specs.Reading.{fault_of}
use Rattle.reg_opening.specs.Opening.{IsFoundAs, OpeningIsStopped}
use Rattle.reg_opening.specs.declared.kind.StoreKind.TheVariants as kinds
use Rattle.reg_sql.specs.declared.open.OpenFault.{OpenFault}
use Rattle.reg_sql.specs.declared.open.OpenFault.TheVariants as refusals
use Rattle.reg_sql.specs.declared.trouble.Trouble.{Trouble}
use Rattle.reg_sql.specs.declared.trouble.Trouble.TheVariants as troubles

-- A new office was wanted, and no name of its tables was taken. So it was founded.
pub record FoundsWanted (fresh : Bool) (old seen : Database) : Type 0 where
  pub wanted : fresh ≡ true
  pub free : AreFree old.schema
  pub founds : Founds old seen

-- The store was an office's of an older version. So the tables that this lacks came.
pub record BringsOlder (old seen : Database) : Type 0 where
  pub version : Version
  pub older : version ≢ newest
  pub found : IsFoundAs old (kinds.Ours version)
  pub gained : GainsTables (later_than version) old.schema seen.schema

-- the store was one that an opening writes, and this was written
abbrev pub HadToWrite : Bool → Database → Database → Type 0
HadToWrite fresh old seen = FoundsWanted fresh old seen ⊎ BringsOlder old seen

-- the fault tells an error that came when all was made, and then not committed
abbrev pub IsUnkept : Bool → State → State → Given → Type 0
IsUnkept fresh old new fault =
    (error : Error) × (fault ≡ fault_of error)
    × (Works new → (seen : Database) × HadToWrite fresh old.now seen)

-- A fault has a cause: that of a call that finds what a store is, or what was made was not committed.
-- So a store that an opening only reads has the first alone. No other has a store open that was opened.
abbrev pub IsFailed : {S : Type 0} → (Error → Type 0) → Type 0 → Ghosts S → Bool → State → State
    → OpenFault → Type 0
IsFailed Reported Refused g fresh old new (refusals.Fault fault) =
    OpeningIsStopped Reported Refused g old new fault ⊎ IsUnkept fresh old new fault
IsFailed Reported Refused g fresh old new refusals.Busy = ⊥
IsFailed Reported Refused g fresh old new (refusals.Version n) = Unit {0}
IsFailed Reported Refused g fresh old new refusals.NotOurs = Unit {0}

-- of a store that was opened, which comes back; why none was is known by the error
abbrev pub IsFailedBy : {S L : Type 0} → (Error → Type 0) → Type 0 → (g : Ghosts S)
    → (Result (Held S) (Error × L) → Type 0) → Bool → OpenFault → Result (Held S) (Error × L) → Type 0
IsFailedBy {S} Reported Refused g Opens fresh refusal (Ok left) =
    (opened : Held S) × Opens (Ok opened)
    × IsFailed Reported Refused g fresh (state g opened) (state g left) refusal
IsFailedBy Reported Refused g Opens fresh refusal (Err failed) = Unit {0}

-- ---- Of a store that is looked into

-- a trouble that is a fault has such a cause, where no new office is wanted
abbrev pub IsCaused : {S : Type 0} → (Error → Type 0) → Type 0 → Ghosts S → State → State → Trouble
    → Type 0
IsCaused Reported Refused g old new troubles.Memory =
    IsFailed Reported Refused g false old new (refusals.Fault faults.Memory)
IsCaused Reported Refused g old new troubles.Store =
    IsFailed Reported Refused g false old new (refusals.Fault faults.Store)
IsCaused Reported Refused g old new troubles.NoFile = Unit {0}
IsCaused Reported Refused g old new troubles.Unreadable = Unit {0}
IsCaused Reported Refused g old new troubles.Special = Unit {0}
IsCaused Reported Refused g old new troubles.Busy = Unit {0}
IsCaused Reported Refused g old new troubles.Unsteady = Unit {0}
IsCaused Reported Refused g old new troubles.Journal = Unit {0}
IsCaused Reported Refused g old new troubles.NoDatabase = Unit {0}
IsCaused Reported Refused g old new troubles.InTransaction = Unit {0}
IsCaused Reported Refused g old new (troubles.Version n) = Unit {0}
IsCaused Reported Refused g old new (troubles.NotOurs flaw) = Unit {0}

-- of a copy that was made, which comes back; why none was is told by what copies
abbrev pub IsCausedIn : {S : Type 0} → (Error → Type 0) → Type 0 → (g : Ghosts S)
    → (Result (Held S) Trouble → Type 0) → Trouble → Option (Held S) → Type 0
IsCausedIn {S} Reported Refused g Copies trouble (Some left) =
    (copied : Held S) × Copies (Ok copied)
    × IsCaused Reported Refused g (state g copied) (state g left) trouble
IsCausedIn Reported Refused g Copies trouble None = Unit {0}
