-- What a look at an office finds in a copy of its store.
use Rattle.std.specs.Prelude.{◌≡◌, false, Result, Ok, Err, Option, Some, None}
use Rattle.sqlite.specs.Files.{file_state, image_of}
use Rattle.sqlite.specs.Held.{Held}
use Rattle.sqlite.specs.State.{State, HasCleanDisk}
use Rattle.sqlite_disk.specs.declared.Disk as disk
use Rattle.sqlite_disk.specs.declared.Files.{Files}
use Rattle.sqlite_store.specs.declared.store.FileStore.{FileStore}
use Rattle.reg_tables.specs.Connection.{Holds, Works}
use Rattle.reg_tables.specs.Version.{number_of, schema_of}
use Rattle.reg_tables.specs.declared.version.Version.{Version}
use Rattle.reg_statements.specs.Content.{world_in}
use Rattle.reg_opening.specs.Opening.{IsOfVersion, IsOurs}
use Rattle.reg_sql.specs.Opening.{IsFoundFirst, IsOpened}
use Rattle.reg_sql.specs.Troubles.{IsTrouble}
use Rattle.reg_sql.specs.declared.trouble.Trouble.{Trouble}
use Rattle.reg_sql.specs.declared.trouble.Trouble.TheVariants.{NoFile, Unreadable, Special, Journal, InTransaction, Version as OfVersion, NotOurs, Memory}

-- what is wrong is of the files or of their copies, and of no office
abbrev pub IsOfCopies : Trouble → Type 0
IsOfCopies InTransaction = ⊥
IsOfCopies (OfVersion n) = ⊥
IsOfCopies (NotOurs flaw) = ⊥
IsOfCopies _ = Unit {0}

-- and what is wrong is of files that are read, of which none was copied yet
abbrev pub IsOfReading : Trouble → Type 0
IsOfReading NoFile = Unit {0}
IsOfReading Unreadable = Unit {0}
IsOfReading Special = Unit {0}
IsOfReading Journal = Unit {0}
IsOfReading Memory = Unit {0}
IsOfReading _ = ⊥

-- what a copy of files may be: what is found in some files, where the copy returns it; or none, for a
-- reason that is of no office
module _ {D : Type 0} {g : disk.Ghosts D} where
  abbrev pub CopiesFiles : Result (Held (FileStore D g)) Trouble → Type 0
  CopiesFiles (Ok conn) =
      HasCleanDisk (file_state conn)
      → (files : Files D) × IsFoundFirst (image_of g files) (file_state conn)
  CopiesFiles (Err trouble) = IsOfCopies trouble

-- An office is seen in a copy: it is the one that the tables of a version hold, brought to the newest in
-- the copy. The version that is told is the one in its row; and where no other tables stand beside those
-- of the version, they are an office's that is well kept.
pub record IsSeen (v : Version) (copied kept : State) : Type 0 where
  pub opened : Holds kept → Works copied × IsOpened false copied.now (world_in kept)
  pub version : Works kept → IsOfVersion (number_of v) copied.now
  pub ours : Holds kept → copied.now.schema ≡ schema_of v → IsOurs v copied.now

-- of what may be copied, by its state
module _ {C : Type 0} (state : C → State) (Copies : Result C Trouble → Type 0) where
  -- an office is seen in a copy that was made
  abbrev pub IsSeenIn : Version → C → Type 0
  IsSeenIn version kept = (copied : C) × Copies (Ok copied) × IsSeen version (state copied) (state kept)

  -- why none is: the copy that was made has none, and comes back; or none was made
  abbrev pub IsUnseenIn : Trouble → Option C → Type 0
  IsUnseenIn trouble (Some left) =
      (copied : C) × Copies (Ok copied) × (Works (state left) → IsTrouble (state copied) trouble)
  IsUnseenIn trouble None = Copies (Err trouble)
