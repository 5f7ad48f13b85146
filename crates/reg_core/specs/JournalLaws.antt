-- What is so of the journal.
use Rattle.std.specs.Prelude.{◌≡◌, ℕ, true, List, [], ◌∷◌, ◌++◌, Option, Some, Contains}
use Rattle.std.specs.List.{list_any}
use Rattle.std.specs.FinMap.{get}
use Rattle.reg_maps.specs.Maps.{same_text}
use Rattle.reg_core.specs.Answer.{change_of}
use Rattle.reg_core.specs.Journal.{acts_if, deeds_of, with_acts}
use Rattle.reg_core.specs.Names.{first_digits}
use Rattle.reg_core.specs.Run.{Event, world_after}
use Rattle.reg_core.specs.Step.{answer_to, stamp_in}
use Rattle.reg_core.specs.Unseen.{Stage, stages}
use Rattle.reg_core.specs.World.{World}
use Rattle.reg_core.specs.declared.capability.Cap.{Cap}
use Rattle.reg_core.specs.declared.change.Change.{Change}
use Rattle.reg_core.specs.declared.change.Change.TheVariants.{RevokeAll}
use Rattle.reg_core.specs.declared.command.Command.{Command}
use Rattle.reg_core.specs.declared.journal.Act.{Act}
use Rattle.reg_core.specs.declared.journal.Deed.{Deed}
use Rattle.reg_core.specs.declared.journal.Deed.TheVariants as did

-- ---- Exactness

-- the acts of what an event changed, if it changed something: at its moment, and by the capability
-- that its caller had in the world before it
abbrev pub acts_at : Stage → List Act
acts_at s = acts_if (stamp_in s.before s.event.caller s.event.moment) s.before s.change

-- those of a run, in order
abbrev pub acts_in : List Stage → List Act
acts_in [] = []
acts_in (s ∷ more) = acts_at s ++ acts_in more

-- after every list of events, from any world, the journal is what was there and then the acts of the
-- steps that changed something, in order
abbrev pub JournalIsExact : (List ℕ → List ℕ) → Type 0
JournalIsExact digest_of =
    (w : World) (events : List Event)
    → (world_after digest_of w events).journal
    ≡ with_acts (acts_in (stages digest_of w events)) w.journal

-- so no act changes or goes away
abbrev pub JournalStays : (List ℕ → List ℕ) → Type 0
JournalStays digest_of =
    (w : World) (events : List Event)
    → (more : List Act) × ((world_after digest_of w events).journal ≡ more ++ w.journal)

-- ---- Acts

-- the change leaves one act; where it takes several capabilities away, one for each
abbrev pub LeavesOne : World → Change → Type 0
LeavesOne w (RevokeAll digests) =
    (digest : List ℕ) (cap : Cap) → get w.caps digest ≡ Some cap
    → list_any (same_text digest) digests ≡ true
    → Contains (deeds_of w.caps w.blocks (RevokeAll digests))
    (did.Revoke cap.account (first_digits digest))
LeavesOne w change = (deed : Deed) × (deeds_of w.caps w.blocks change ≡ deed ∷ [])

-- the acts of a change are signed: they have its moment, the account of the caller's capability, and
-- the first digits of the digest of the token that has it
pub record IsSigned (w : World) (caller : Option (List ℕ)) (moment : ℕ) (change : Change) : Type 0
  where
    pub digest : List ℕ
    pub by : caller ≡ Some digest
    pub cap : Cap
    pub has : get w.caps digest ≡ Some cap
    pub stamp : stamp_in w caller moment
        ≡ record {
          moment = Some moment;
          by = Some (record { account = cap.account; token = first_digits digest });
        }
    pub one : LeavesOne w change

-- each change that a step makes is signed, and leaves its act
abbrev pub ChangesAreSigned : (List ℕ → List ℕ) → Type 0
ChangesAreSigned digest_of =
    (w : World) (caller : Option (List ℕ)) (moment : ℕ) (command : Command) (change : Change)
    → change_of (answer_to digest_of w caller moment command) ≡ Some change
    → IsSigned w caller moment change
