-- Why there is no office in the files at a path, where what was opened is dropped.
use Rattle.std.specs.Prelude.{◌≡◌, Bool, Result, IfErr, Option}
use Rattle.sqlite.specs.Files.{file_state}
use Rattle.sqlite.specs.Held.{Held}
use Rattle.sqlite.specs.declared.error.Error.{Error}
use Rattle.sqlite.specs.declared.file.Leftover.{Leftover}
use Rattle.sqlite_disk.specs.declared.Disk as disk
use Rattle.sqlite_store.specs.declared.store.FileStore.{FileStore}
use Rattle.sqlite_wal.specs.Recovery.{Image}
use Rattle.reg_sql.specs.Opening.{OpensFiles, RefusesOpening}
use Rattle.reg_sql.specs.declared.open.OpenFault.{OpenFault}
use Rattle.reg_sql.specs.declared.open.OpenFault.TheVariants as refusals

-- a file that another has open is none of an office's
abbrev pub refusal_at_path : OpenFault → OpenFault
refusal_at_path refusals.Busy = refusals.NotOurs
refusal_at_path (refusals.Version n) = refusals.Version n
refusal_at_path refusals.NotOurs = refusals.NotOurs
refusal_at_path (refusals.Fault fault) = refusals.Fault fault

-- A call that gives a keeper over files that held this, or the refusal alone: a store was opened, or
-- none, and it was refused as by `open_by`.
abbrev pub RefusesFiles : {K D : Type 0} {g : disk.Ghosts D} → (K → Held (FileStore D g)) → Image → Bool
    → Result K OpenFault → Type 0
RefusesFiles {D = D} {g = g} tables image fresh result = IfErr result (λ refusal.
    (opened : Result (Held (FileStore D g)) (Error × Option (Leftover D g)))
    × RefusesOpening file_state (OpensFiles image) fresh refusal opened)

-- the same, but a file that another has open is none of an office's
abbrev pub RefusesPath : {K D : Type 0} {g : disk.Ghosts D} → (K → Held (FileStore D g)) → Image → Bool
    → Result K OpenFault → Type 0
RefusesPath {D = D} {g = g} tables image fresh result = IfErr result (λ refusal.
    (opened : Result (Held (FileStore D g)) (Error × Option (Leftover D g))) × (told : OpenFault)
    × RefusesOpening file_state (OpensFiles image) fresh told opened
    × (refusal ≡ refusal_at_path told))
