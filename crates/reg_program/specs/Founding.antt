-- The jobs that found an office, and have it answer the lines of a script.
use Rattle.std.specs.Prelude.{◌≡◌, ◌⊎◌, ⊤, ℕ, Bool, false, List, Option, codes}
use Rattle.std.specs.Io.KnownBytes.{Appends}
use Rattle.reg_core.specs.World.{World}
use Rattle.reg_keeper.specs.Keeper.{GoesOn}
use Rattle.reg_office.specs.Found.{IsCause, MayFound, WasFounded, WasFoundedBy}
use Rattle.reg_office.specs.Stamps.{job_stamp}
use Rattle.reg_office.specs.declared.found.FoundFault.{FoundFault}
use Rattle.reg_wire.specs.Script.Answers.{ServesOver}
use Rattle.reg_wire.specs.Script.Lines.{AnswersAll, StopsAt}
use Rattle.reg_wire.specs.declared.wire_fault.WireFault.{WireFault}
use Rattle.reg_program.specs.Undone.{found_failure, script_failure}
use Rattle.reg_program.specs.declared.console.Console.{Console}
use Rattle.reg_program.specs.declared.faults.JobFailure.TheVariants.{Write}
use Rattle.reg_program.specs.declared.faults.Undone.{Undone}
use Rattle.reg_program.specs.declared.faults.Undone.TheVariants.{Fault}

-- ---- The job that founds an office

-- the first clerk is there, made at this moment, and the job says that the office is ready
pub record IsReady (moment : ℕ) (token : List ℕ) (had has : Option (List ℕ)) (old new : World)
    : Type 0 where
  pub founded : WasFoundedBy (job_stamp moment) old new token
  pub wrote : Appends had has (codes "ready\n")

-- no first clerk was made, why, and nothing has changed; or one was, and that could not be printed
abbrev pub IsUnready : ℕ → List ℕ → World → World → Undone → Type 0
IsUnready moment token old new undone =
    ((fault : FoundFault) × (undone ≡ Fault (found_failure fault)) × IsCause old token fault
    × (new ≡ old))
    ⊎ ((undone ≡ Fault Write) × WasFoundedBy (job_stamp moment) old new token)

-- ---- The job that runs a script: over the states of a keeper

-- the first clerk is there
pub record FoundsClerk {S : Type 0} (world : S → World) (Holds Sound : S → Type 0) (before after : S)
    (token : List ℕ) : Type 0 where
  pub founded : Holds after → WasFounded (world before) (world after) token
  pub premise : GoesOn Holds Sound before after ⊤

-- no first clerk was made, why, and nothing has changed
pub record Unfounded {S : Type 0} (world : S → World) (Holds Sound : S → Type 0) (fails : Bool)
    (before after : S) (token : List ℕ) (fault : FoundFault) : Type 0 where
  pub cause : Holds after → IsCause (world before) token fault
  pub kept : Holds after → world after ≡ world before
  pub premise : GoesOn Holds Sound before after (MayFound false fault)
  pub may : MayFound fails fault

-- the office is founded, and then all lines of the script are answered in turn
pub record RunsAll {S : Type 0} (world : S → World) (Holds Sound : S → Type 0) (fails : Bool)
    (first last : S) (token : List ℕ) (unread left had has : Option (List ℕ)) : Type 0 where
  pub office : S
  pub founds : FoundsClerk world Holds Sound first office token
  pub answers : AnswersAll (ServesOver world Holds Sound fails) office last unread left had has

-- no office is founded, and nothing is read or written; or it is, and lines are answered up to a
-- fault
abbrev pub RunsUpTo : {S : Type 0} → (S → World) → (S → Type 0) → (S → Type 0) → Bool → S → S
    → List ℕ → Option (List ℕ) → Option (List ℕ) → Option (List ℕ) → Option (List ℕ) → Undone
    → Type 0
RunsUpTo {S} world Holds Sound fails first last token unread left had has undone =
    ((fault : FoundFault) × (undone ≡ Fault (found_failure fault))
    × Unfounded world Holds Sound fails first last token fault × (left ≡ unread) × (has ≡ had))
    ⊎ ((fault : WireFault) × (undone ≡ Fault (script_failure fault))
    × (office : S) × FoundsClerk world Holds Sound first office token
    × StopsAt (ServesOver world Holds Sound fails) fault office last unread left had has)

-- the same over a console, by what is known of such inputs and outputs
module _ {S R W E : Type 0} (world : S → World) (Holds Sound : S → Type 0) (fails : Bool)
    (remaining : R → Option (List ℕ)) (contents : W → Option (List ℕ)) (old new : Console R W E) where
  abbrev pub RunsAllOn : S → S → List ℕ → Type 0
  RunsAllOn first last token =
      RunsAll world Holds Sound fails first last token (remaining old.input.now)
      (remaining new.input.now) (contents old.output.now) (contents new.output.now)

  abbrev pub RunsUpToOn : S → S → List ℕ → Undone → Type 0
  RunsUpToOn first last token =
      RunsUpTo world Holds Sound fails first last token (remaining old.input.now)
      (remaining new.input.now) (contents old.output.now) (contents new.output.now)
