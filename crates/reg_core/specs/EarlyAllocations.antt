-- What is so of early allocations, their renewals and their permanence (RFC 7120).
use Rattle.std.specs.Prelude.{◌≡◌, ◌≢◌, ◌⊎◌, ℕ, Bool, true, not, List, Option, Some, IsSome, is_some, Ok}
use Rattle.std.specs.FinMap.{get}
use Rattle.reg_early.specs.Moment.{utc_day}
use Rattle.reg_early.specs.Terms.{renewal, settlement, status_on}
use Rattle.reg_early.specs.declared.term.Status.TheVariants as status
use Rattle.reg_early.specs.declared.term.Term.{Term}
use Rattle.reg_core.specs.Answer.{change_of}
use Rattle.reg_core.specs.Entry.{with_hold}
use Rattle.reg_core.specs.Step.{answer_to, step}
use Rattle.reg_core.specs.View.{cap_at}
use Rattle.reg_core.specs.WellKept.{WellKept}
use Rattle.reg_core.specs.World.{World, Place, pending}
use Rattle.reg_core.specs.declared.ask.Ask.{Ask}
use Rattle.reg_core.specs.declared.ask.Ask.TheVariants.{Code, Early, Renew, Permanent}
use Rattle.reg_core.specs.declared.ask.Want.TheVariants.{Value}
use Rattle.reg_core.specs.declared.capability.Cap.{Cap}
use Rattle.reg_core.specs.declared.change.Change.TheVariants.{Submit}
use Rattle.reg_core.specs.declared.command.Command.{Command}
use Rattle.reg_core.specs.declared.command.Command.TheVariants.{Applicant, Clerk}
use Rattle.reg_core.specs.declared.command.ApplicantCommand.TheVariants as applicant
use Rattle.reg_core.specs.declared.command.ClerkCommand.TheVariants.{Approve, SetHold}
use Rattle.reg_core.specs.declared.entry.Registration.{Registration}

-- ---- Terms

-- an ask that is approved on a day moves the term of the entry at a place: one for its renewal
-- moves the expiry, where there is one and it was not renewed before or a minute of the IESG lets it be
-- renewed again, to a year of the calendar after the later of that day and the old expiry day; one
-- for its permanence takes the expiry away
abbrev pub MovesTerm : Place → ℕ → Ask → Term → Term → Type 0
MovesTerm place today (Renew ask) before now =
    ((ask.registry, ask.value) ≡ place) × (renewal before today (is_some ask.iesg) ≡ Ok now)
MovesTerm place today (Permanent ask) before now =
    ((ask.registry, ask.value) ≡ place) × (settlement before ≡ Ok now)
MovesTerm place today ask before now = ⊥

-- the command approves a pending request of the entry's own assignee, by which its term moves, and
-- nothing else of it
pub record IsMoved (w : World) (today : ℕ) (command : Command) (place : Place)
    (before now : Registration) : Type 0 where
  pub reference : List ℕ
  pub by : command ≡ Clerk (Approve before.assignee reference)
  pub ask : Ask
  pub request : get w.requests (before.assignee, reference) ≡ Some (pending ask)
  pub moves : MovesTerm place today ask before.term now.term
  pub rest : now ≡ record before { term = now.term }

-- the command is a clerk's, that an entry which expires be held, on a day on which it has not expired,
-- or be held no more; by it the mark turns, and nothing else of the entry
pub record IsMarked (today : ℕ) (command : Command) (place : Place) (before now : Registration) :
    Type 0 where
  pub held : Bool
  pub by : command ≡ Clerk (SetHold place.0 place.1 held)
  pub expires : IsSome before.term.expires
  pub turned : before.term.held ≡ not held
  pub stood : held ≡ true → ¬ (status_on before.term today ≡ status.Expired)
  pub rest : now ≡ with_hold held before

-- whatever a command does, each entry stands after it as before, or its own assignee's renewal or
-- permanence was approved, or a clerk marked it
abbrev pub TermsMoveDuly : (List ℕ → List ℕ) → Type 0
TermsMoveDuly digest_of =
    (w : World) (caller : Option (List ℕ)) (moment : ℕ) (command : Command) (place : Place)
    (before : Registration) → WellKept w → get w.entries place ≡ Some before
    → (now : Registration)
    × (get (step digest_of w caller moment command).world.entries place ≡ Some now)
    × ((now ≡ before) ⊎ (IsMoved w (utc_day moment) command place before now
    ⊎ IsMarked (utc_day moment) command place before now))

-- ---- Expired values

-- the ask is for a new entry at the place
abbrev pub WantsNew : Ask → Place → Type 0
WantsNew (Code ask) place = (ask.registry ≡ place.0) × (ask.want ≡ Value place.1)
WantsNew (Early ask) place = (ask.registry ≡ place.0) × (ask.want ≡ Value place.1)
WantsNew ask place = ⊥

-- a value that has an entry is asked for in vain, whatever the entry's term: also once it expired
abbrev pub ExpiredValuesAreTaken : (List ℕ → List ℕ) → Type 0
ExpiredValuesAreTaken digest_of =
    (w : World) (caller : Option (List ℕ)) (moment : ℕ) (command : Command)
    (account reference : List ℕ) (ask : Ask) (place : Place) (a : Registration)
    → get w.entries place ≡ Some a → WantsNew ask place
    → change_of (answer_to digest_of w caller moment command)
    ≢ Some (Submit account reference ask)

-- ---- Entries of others

-- the ask is for the renewal or the permanence of the entry at the place
abbrev pub IsOfEntry : Ask → Place → Type 0
IsOfEntry (Renew ask) place = (ask.registry, ask.value) ≡ place
IsOfEntry (Permanent ask) place = (ask.registry, ask.value) ≡ place
IsOfEntry ask place = ⊥

-- the caller has no entry there
abbrev pub HasNoEntry : World → Option Cap → Place → Type 0
HasNoEntry w caller place =
    (cap : Cap) (a : Registration) → caller ≡ Some cap → get w.entries place ≡ Some a
    → ¬ (a.assignee ≡ cap.account)

-- who asks for the renewal or the permanence of an entry that is not its own is answered alike,
-- whoever has the value and in which term, and where nobody has it, and nothing changes
abbrev pub ForeignEntriesAreHidden : (List ℕ → List ℕ) → Type 0
ForeignEntriesAreHidden digest_of =
    (w v : World) (caller : Option (List ℕ)) (moment : ℕ) (reference : List ℕ) (ask : Ask)
    (place : Place) → IsOfEntry ask place → v ≡ record w { entries = v.entries }
    → HasNoEntry w (cap_at w caller) place → HasNoEntry v (cap_at v caller) place
    → let command = Applicant (applicant.Submit reference ask) in
    let first = step digest_of w caller moment command in
    let second = step digest_of v caller moment command in
    (first.reply ≡ second.reply) × (first.world ≡ w) × (second.world ≡ v)
