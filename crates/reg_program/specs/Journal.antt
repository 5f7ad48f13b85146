-- The job that prints the journal of an office.
use Rattle.std.specs.Prelude.{◌≡◌, ⊤, ℕ, Bool, true, false, List, Option, Some, None, Result, Ok, Err}
use Rattle.std.specs.Io.KnownBytes.{Appends}
use Rattle.reg_core.specs.declared.journal.Act.{Act}
use Rattle.reg_history.specs.Acts.{acts_digests, acts_text}
use Rattle.reg_history.specs.Noted.{some_begins}
use Rattle.reg_program.specs.declared.faults.JobFailure.TheVariants.{Journal, Memory, Store, Write}
use Rattle.reg_program.specs.declared.faults.Undone.{Undone}
use Rattle.reg_program.specs.declared.faults.Undone.TheVariants.{Fault}

-- whether some digest begins with the digits that were noted, if any were
abbrev pub has_noted : List (List ℕ) → Option (List ℕ) → Bool
has_noted digests None = true
has_noted digests (Some digits) = some_begins digits digests

-- the digest of one of these acts begins so, if digits were noted; and none does
abbrev pub AreNotedBy : Option (List ℕ) → List Act → Type 0
AreNotedBy noted acts = has_noted (acts_digests acts) noted ≡ true

abbrev pub AreUnnotedBy : Option (List ℕ) → List Act → Type 0
AreUnnotedBy noted acts = has_noted (acts_digests acts) noted ≡ false

-- All acts are printed, and the digest of one of them begins with the digits that were noted, if any were.
abbrev pub PrintsActs : (List Act → Type 0) → Option (List ℕ) → Option (List ℕ) → Option (List ℕ)
    → Type 0
PrintsActs Has noted had has =
    (acts : List Act) × Has acts × AreNotedBy noted acts × Appends had has (acts_text acts)

-- Nothing is printed, unless it could not be written; and that no digest begins so is said only where it
-- is so.
pub record IsUnprintedBy (Has : List Act → Type 0) (noted had has : Option (List ℕ)) (why : Undone) :
    Type 0 where
  pub silent : (why ≡ Fault Write → ⊥) → has ≡ had
  pub unnoted : why ≡ Fault Journal → (acts : List Act) × Has acts × AreUnnotedBy noted acts

-- no digest begins so, there was no memory, the store failed, or what is printed could not be written
abbrev pub IsOfActs : Undone → Type 0
IsOfActs (Fault Journal) = ⊤
IsOfActs (Fault Memory) = ⊤
IsOfActs (Fault Store) = ⊤
IsOfActs (Fault Write) = ⊤
IsOfActs _ = ⊥

-- The journal that has these acts is printed, or why not.
abbrev pub TellsActs : (List Act → Type 0) → Option (List ℕ) → Option (List ℕ) → Option (List ℕ)
    → Result ⊤ Undone → Type 0
TellsActs Has noted had has (Ok u) = PrintsActs Has noted had has
TellsActs Has noted had has (Err why) = IsUnprintedBy Has noted had has why
