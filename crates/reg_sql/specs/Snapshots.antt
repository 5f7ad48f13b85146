-- A copy of an office: the bytes of a database file that needs no log.
use Rattle.std.specs.Prelude.{◌≡◌, ℕ, List, [], Result, Ok, Err}
use Rattle.sqlite.specs.Files.{AreFoundIn, HoldsDatabase, file_state}
use Rattle.sqlite.specs.Held.{Held}
use Rattle.sqlite.specs.State.{State, HasCleanDisk}
use Rattle.sqlite.specs.Tree.{Trees}
use Rattle.sqlite_disk.specs.declared.Disk as disk
use Rattle.sqlite_store.specs.declared.store.FileStore.{FileStore}
use Rattle.sqlite_wal.specs.Recovery.{Image}
use Rattle.reg_sql.specs.Looking.{IsOfCopies}
use Rattle.reg_sql.specs.Opening.{IsFoundFirst}
use Rattle.reg_sql.specs.Steady.{IsCopiedWhole, CopyReading}
use Rattle.reg_sql.specs.declared.trouble.Trouble.{Trouble}

-- a log and a database file with these bytes
abbrev pub image_with : List ℕ → List ℕ → Image
image_with log file = record { log = log; db = file }

-- a database file alone
abbrev pub alone : List ℕ → Image
alone file = image_with [] file

-- what a connection to files that hold this shows first
module _ {D : Type 0} {g : disk.Ghosts D} where
  abbrev pub ReadsFiles : Image → Result (Held (FileStore D g)) Trouble → Type 0
  ReadsFiles image (Ok conn) = HasCleanDisk (file_state conn) → IsFoundFirst image (file_state conn)
  ReadsFiles image (Err trouble) = IsOfCopies trouble

-- a database file with these bytes holds, with no log, all that was committed
pub record IsClosedIn (s : State) (bytes : List ℕ) : Type 0 where
  pub clean : HasCleanDisk s
  pub holds : ∥ HoldsDatabase (alone bytes) s.committed.trees ∥₁

-- The log was worked into the file: a database file with these bytes holds, with no log, what is found
-- in the file and its log.
pub record IsWorkedIn (image : Image) (bytes : List ℕ) : Type 0 where
  pub trees : Trees
  pub found : AreFoundIn image trees
  pub same : (other : Trees) → HoldsDatabase image other → trees ≡ other
  pub holds : ∥ HoldsDatabase (alone bytes) trees ∥₁

-- A database file with these bytes holds, with no log, what was found in a file and its log, as a steady
-- try read them; fewer than so many tries before it were not steady.
pub record IsTakenFrom (most : ℕ) (old new : List CopyReading) (bytes : List ℕ) : Type 0 where
  pub log : List ℕ
  pub file : List ℕ
  pub copied : IsCopiedWhole most log file old new
  pub worked_in : IsWorkedIn (image_with log file) bytes
