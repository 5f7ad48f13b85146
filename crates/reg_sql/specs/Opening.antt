-- What an opening finds in a store, and what it leaves of it.
use Rattle.std.specs.Prelude.{◌≡◌, ◌≢◌, ◌⊎◌, ℤ, Bool, true, false, Result, Ok, Err, IfOk, IfErr, IsTrue, Option, None, Some}
use Rattle.sqlite.specs.Effect.{Database, IsDatabase}
use Rattle.sqlite.specs.Files.{AreFoundIn, FailsToOpenFiles, HoldsDatabase, IsCleanLeft, file_state, image_of}
use Rattle.sqlite.specs.Opening.{is_open_error}
use Rattle.sqlite.specs.Tree.{Trees}
use Rattle.sqlite_wal.specs.Recovery.{Image}
use Rattle.sqlite.specs.State.{State, HasCleanDisk}
use Rattle.sqlite.specs.declared.file.Leftover.{Leftover}
use Rattle.sqlite_disk.specs.declared.Disk as disk
use Rattle.sqlite_disk.specs.declared.Files.{Files}
use Rattle.sqlite_store.specs.declared.store.FileStore.{FileStore}
use Rattle.sqlite.specs.Held.{Held}
use Rattle.sqlite.specs.declared.error.Error.{Error}
use Rattle.sqlite.specs.declared.error.Error.TheVariants.{SqliteFailure}
use Rattle.sqlite.specs.declared.error.ErrorCode.TheVariants.{NotADatabase, DatabaseCorrupt, OutOfMemory, CannotOpen, DatabaseBusy}
use Rattle.reg_core.specs.World.{World, empty_world}
use Rattle.reg_keeper.specs.declared.keeper.Fault.{Fault as Given}
use Rattle.reg_keeper.specs.declared.keeper.Fault.TheVariants.{Memory, Store}
use Rattle.reg_tables.specs.Connection.{Holds, IsIdle, Works}
use Rattle.reg_tables.specs.Having.{AreFree, GainsTables, HasTables}
use Rattle.reg_tables.specs.Making.{HasCounter, HasVersion, IsBegunBeside, IsMigrated, no_schema}
use Rattle.reg_tables.specs.Schema.{office_schema}
use Rattle.reg_tables.specs.Selecting.{BeginsWith}
use Rattle.reg_tables.specs.Version.{IsOther, later_than, newest, number_of, schema_of, table_count}
use Rattle.reg_tables.specs.declared.version.Version.{Version}
use Rattle.reg_migration.specs.Beside.{IsSole, IsUpgradedBeside, UpgradesBeside}
use Rattle.reg_statements.specs.Content.{IsStoredAs, content_at, world_in}
use Rattle.reg_opening.specs.Opening.{HasVersionTables, ComesFirst, IsOfVersion, IsOurs}
use Rattle.reg_opening.specs.declared.beside.Beside.{Beside}
use Rattle.reg_sql.specs.Keeping.{IsHonest, KeepsBeside}
use Rattle.reg_sql.specs.declared.open.OpenFault.{OpenFault}
use Rattle.reg_sql.specs.declared.open.OpenFault.TheVariants as refusals

-- the store has no tables
abbrev pub HasNoTables : Database → Type 0
HasNoTables db = db.schema ≡ no_schema

-- a database that is found in files that hold this, where it is one
pub record IsFoundIn (image : Image) (db : Database) : Type 0 where
  pub holds : (trees : Trees) → HoldsDatabase image trees → db.trees ≡ trees
  pub reads : AreFoundIn image db.trees
  pub sound : IsDatabase db

-- the tables of the store are those of a version of an office, or it has none
abbrev pub StandsAlone : Database → Type 0
StandsAlone db = ((v : Version) × (db.schema ≡ schema_of v)) ⊎ HasNoTables db

-- the office that the tables of a version hold; or, where a new one is wanted and there are no
-- tables, the empty one
abbrev pub IsOpened : Bool → Database → World → Type 0
IsOpened fresh db w =
    ((v : Version) × IsOurs v db × (w ≡ content_at v db))
    ⊎ ((fresh ≡ true) × HasNoTables db × (w ≡ empty_world))

-- A new office was wanted, and no name of its tables was taken. It is begun beside what is there,
-- which stays as it was.
pub record IsBegun (fresh : Bool) (old new : Database) : Type 0 where
  pub wanted : fresh ≡ true
  pub free : AreFree old.schema
  pub beside : HasCounter old.schema → IsBegunBeside old new

-- The row of the version said an older one, whose tables were there, and no name of those that it
-- lacked was taken. The office is brought to the newest, and the rows of all other tables stay, if no
-- other table is in the tree of `office`, and none refers to it. Where the tables of the older version
-- came first, the row says the newest.
pub record IsUpgraded (old new : Database) : Type 0 where
  pub version : Version
  pub older : version ≢ newest
  pub says : IsOfVersion (number_of version) old
  pub tables : HasVersionTables version old
  pub beside : HasCounter old.schema → IsSole old.schema says.has
      → IsUpgradedBeside version old new says.has
  pub first : BeginsWith (table_count version) old.schema → HasCounter old.schema
      → IsSole old.schema says.has
      → HasVersion (number_of newest) (new.trees says.has.table.tree)

-- The tables of an office are there, whatever stands beside them. They were there before, of the
-- newest version, and nothing was changed; or a new office was begun; or those of an older version
-- were there, and were brought to the newest. Where those of a version came first, whatever followed
-- them, their rows were an office's that is well kept.
pub record IsTakenOver (fresh : Bool) (old new : Database) : Type 0 where
  pub has : HasTables new.schema
  pub first : (v : Version) → HasVersionTables v old → BeginsWith (table_count v) old.schema
      → ComesFirst v old
  pub from : ((new ≡ old) × IsOfVersion (number_of newest) old)
      ⊎ (IsBegun fresh old new ⊎ IsUpgraded old new)
  pub alone : StandsAlone old → new.schema ≡ office_schema
  pub was_alone : new.schema ≡ office_schema → StandsAlone old

-- why there is no office in a store that was opened: the row of the version says one that is none of
-- the four, whatever tables there are; no office, neither alone nor before other tables, and no such version, and a name is
-- taken where a new one is wanted; a fault
abbrev pub IsRefused : Bool → Database → OpenFault → Type 0
IsRefused fresh db (refusals.Version n) = IsOfVersion n db × IsOther n
IsRefused fresh db refusals.Busy = ⊥
IsRefused fresh db refusals.NotOurs =
    ((v : Version) → ¬ IsOurs v db) × ((n : ℤ) → IsOfVersion n db → ¬ IsOther n)
    × (fresh ≡ true → ¬ AreFree db.schema)
    × ((v : Version) → ¬ (HasVersionTables v db × ComesFirst v db))
IsRefused fresh db (refusals.Fault fault) = Unit {0}

-- the disk was honest before, and nothing has shut the store
abbrev pub StaysLive : State → State → Type 0
StaysLive old new = HasCleanDisk old × (IsTrue old.is_open → IsTrue new.is_open)

-- What comes back is as it was, unless the store has failed for good: what is seen and what is
-- committed are the same, and no transaction was begun or ended.
pub record IsAsItWas (old new : State) : Type 0 where
  pub worked : Works new → Works old
  pub mode : new.in_transaction ≡ old.in_transaction
  pub now : Works new → new.now ≡ old.now
  pub committed : Works new → new.committed ≡ old.committed

-- A call that takes a store over, or leaves it as it was.
pub record TakesOver (fresh : Bool) (old new : State) (result : Result Beside OpenFault)
    : Type 0 where
  pub worked : Works new → Works old
  pub keeps : IfOk result (λ beside. KeepsBeside beside new)
  pub taken : Works new → IfOk result (λ beside. IsTakenOver fresh old.now new.now)
  pub opened : Holds new → IfOk result (λ beside. IsOpened fresh old.now (world_in new))
  pub live : IsHonest new → IfOk result (λ beside. StaysLive old new)
  pub refused : old.in_transaction ≡ false → Works new → IfErr result (IsRefused fresh old.now)
  pub unchanged : IfErr result (λ fault. IsAsItWas old new)

-- A call that brings an office of an older version to the newest, or leaves it as it was. What stood
-- beside it is handed back.
pub record Brings (v : Version) (was : Beside) (old new : State)
    (result : Result Beside OpenFault) : Type 0 where
  pub rest : IsIdle new
  pub worked : Works new → Works old
  pub live : HasCleanDisk new → IfOk result (λ kept. IsTrue new.is_open)
  pub migrated : Works new
      → IfOk result (λ kept. IsStoredAs v old.now → IsMigrated v old.now new.now)
  pub gained : Works new
      → IfOk result (λ kept. GainsTables (later_than v) old.now.schema new.now.schema)
  pub beside : Works new
      → IfOk result (λ kept. UpgradesBeside v old.now new.now)
  pub free : IfOk result (λ kept. kept ≡ was)
  pub fault : IfErr result (λ refusal. (given : Given) × (refusal ≡ refusals.Fault given))
  pub unchanged : Works new → IfErr result (λ refusal. new.now ≡ old.now)

-- what an error of an opened file is to an office: it is none of an office's, but where another has
-- it open, there was no memory, the disk failed, or it is too big
abbrev pub refusal_of : Error → OpenFault
refusal_of (SqliteFailure OutOfMemory) = refusals.Fault Memory
refusal_of (SqliteFailure NotADatabase) = refusals.NotOurs
refusal_of (SqliteFailure DatabaseCorrupt) = refusals.NotOurs
refusal_of (SqliteFailure CannotOpen) = refusals.NotOurs
refusal_of (SqliteFailure DatabaseBusy) = refusals.Busy
refusal_of _ = refusals.Fault Store

-- ---- Files in which no office is

module _ {D : Type 0} {g : disk.Ghosts D} where
  -- files that held this were opened and read, and the library says why they are no store
  pub record OpeningIsUnread (image : Image) (left : Leftover D g) (error : Error) : Type 0 where
    pub files : Files D
    pub held : image_of g files ≡ image
    pub cause : FailsToOpenFiles files left error

  -- why no store was opened, by the library's error and what it left of the files
  abbrev pub IsUnopened : Image → Option (Leftover D g) → Error → Type 0
  IsUnopened image None error =
      (error ≡ SqliteFailure CannotOpen)
      ⊎ ((error ≡ SqliteFailure OutOfMemory) ⊎ (error ≡ SqliteFailure DatabaseBusy))
  IsUnopened image (Some left) error =
      IsTrue (is_open_error error) × (IsCleanLeft left → OpeningIsUnread image left error)

-- what was found first in files that held this, where the disk returned it: it is open, and no
-- transaction is
pub record IsFoundFirst (image : Image) (s : State) : Type 0 where
  pub autocommit : s.in_transaction ≡ false
  pub settled : s.now ≡ s.committed
  pub is_open : IsTrue s.is_open
  pub found : IsFoundIn image s.now

-- what an opening of files that held this may answer: what was found in them; or why there is none
module _ {D : Type 0} {g : disk.Ghosts D} where
  abbrev pub OpensFiles : Image → Result (Held (FileStore D g)) (Error × Option (Leftover D g)) → Type 0
  OpensFiles image (Ok conn) = HasCleanDisk (file_state conn) → IsFoundFirst image (file_state conn)
  OpensFiles image (Err failed) = IsUnopened image failed.1 failed.0

-- ---- Stores that something opens

-- a store is taken over as it was opened
pub record IsOpenedOf (fresh : Bool) (old new : State) : Type 0 where
  pub opened : Holds new → Works old × IsOpened fresh old.now (world_in new)
  pub taken : Works new → Works old × IsTakenOver fresh old.now new.now
  pub live : IsHonest new
      → HasCleanDisk old × (IsTrue old.is_open → StandsAlone old.now → Holds new)

-- a store is refused as it was opened, and left as it was
pub record IsRefusedOf (fresh : Bool) (refusal : OpenFault) (old new : State) : Type 0 where
  pub unchanged : IsAsItWas old new
  pub refused : old.in_transaction ≡ false → Works new → IsRefused fresh old.now refusal

-- of what may be opened, by its state
module _ {C L : Type 0} (state : C → State) (Opens : Result C (Error × L) → Type 0) where
  -- an office is that of a store that was opened
  abbrev pub IsOpenedBy : Bool → C → Type 0
  IsOpenedBy fresh kept = (opened : C) × Opens (Ok opened) × IsOpenedOf fresh (state opened) (state kept)

  -- why there is none: the store that was opened is refused; or none was, and the refusal is what the
  -- error is to an office
  abbrev pub RefusesOpening : Bool → OpenFault → Result C (Error × L) → Type 0
  RefusesOpening fresh refusal (Ok left) =
      (opened : C) × Opens (Ok opened) × IsRefusedOf fresh refusal (state opened) (state left)
  RefusesOpening fresh refusal (Err failed) = Opens (Err failed) × (refusal ≡ refusal_of failed.0)
