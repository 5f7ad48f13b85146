-- The job that verifies a published folder.
use Rattle.std.specs.Prelude.{◌≡◌, ⊤, ℕ, true, List, Option, Result, Ok, Err}
use Rattle.std.specs.Io.KnownBytes.{Appends}
use Rattle.std.specs.String.{string_bytes}
use Rattle.reg_history.specs.Chain.{chained}
use Rattle.reg_changes.specs.declared.change.HistoryRecord.{HistoryRecord}
use Rattle.reg_verify.specs.Flaws.{flaw_text}
use Rattle.reg_verify.specs.Verifying.{IsNotedIn, IsVerified, TellsFlaw, verified_text}
use Rattle.reg_verify.specs.declared.flaw.FolderFlaw.{FolderFlaw}
use Rattle.reg_verify.specs.declared.flaw.Unverified.{Unverified}
use Rattle.reg_verify.specs.declared.flaw.Unverified.TheVariants as un
use Rattle.reg_verify.specs.declared.part.FolderPart.{FolderPart}
use Rattle.reg_program.specs.declared.faults.JobFailure.TheVariants.{History, Large, Memory, Read, Write}
use Rattle.reg_program.specs.declared.faults.Undone.{Undone}
use Rattle.reg_program.specs.declared.faults.Undone.TheVariants.{Fault, Explained, Refused}

-- The folder whose files are found and named so is verified, and that is printed: how many changes its history has,
-- and the digest of the last one.
abbrev pub PrintsVerified : (FolderPart → Option (List ℕ) → Type 0) → (List (List ℕ) → Type 0)
    → Option (List ℕ) → Option (List ℕ) → Option (List ℕ) → Type 0
PrintsVerified Found Names noted had has =
    (digests : List (List ℕ)) × IsVerified Found Names noted digests
    × Appends had has (verified_text digests)

-- why a folder is not verified, as a job says it, and for people
abbrev pub IsSaidOf : Unverified → Undone → Type 0
IsSaidOf un.Memory why = why ≡ Fault Memory
IsSaidOf un.Read why = why ≡ Fault Read
IsSaidOf un.Large why = why ≡ Fault Large
IsSaidOf (un.Flawed flaw) (Explained failure text) =
    (failure ≡ History) × (string_bytes text ≡ flaw_text flaw)
IsSaidOf (un.Flawed flaw) (Fault failure) = ⊥
IsSaidOf (un.Flawed flaw) (Refused line) = ⊥

-- this is wrong in the folder; or there was no memory, a file was not read, or nothing could be written
abbrev pub IsUnverified : (FolderPart → Option (List ℕ) → Type 0) → (List (List ℕ) → Type 0)
    → Option (List ℕ) → Undone → Type 0
IsUnverified Found Names noted (Explained failure text) =
    (flaw : FolderFlaw) × TellsFlaw Found Names noted flaw × (failure ≡ History)
    × (string_bytes text ≡ flaw_text flaw)
IsUnverified Found Names noted (Fault Memory) = ⊤
IsUnverified Found Names noted (Fault Read) = ⊤
IsUnverified Found Names noted (Fault Large) = ⊤
IsUnverified Found Names noted (Fault Write) = ⊤
IsUnverified Found Names noted why = ⊥

-- What is printed is said of some history, in which no record is earlier than the one before it, and which
-- has the digest that was noted, if one was; or nothing is, unless it could not be written.
abbrev pub IsVerifiedBy : Option (List ℕ) → Option (List ℕ) → Option (List ℕ) → Result ⊤ Undone
    → Type 0
IsVerifiedBy noted had has (Ok u) =
    (records : List HistoryRecord) × ((chained records).in_order ≡ true)
    × IsNotedIn (chained records).digests noted
    × Appends had has (verified_text (chained records).digests)
IsVerifiedBy noted had has (Err why) = (why ≡ Fault Write → ⊥) → has ≡ had
