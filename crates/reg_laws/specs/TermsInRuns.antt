-- How terms move in a whole run.
use Rattle.std.specs.Prelude.{◌≡◌, ◌≢◌, ◌⊎◌, true, ℕ, List, [], ◌∷◌, Some, All}
use Rattle.std.specs.FinMap.{get}
use Rattle.reg_early.specs.Moment.{utc_day}
use Rattle.reg_early.specs.Terms.{held_term}
use Rattle.reg_core.specs.EarlyAllocations.{IsMarked, IsMoved}
use Rattle.reg_core.specs.Run.{Event, have_forms, step_of, world_after}
use Rattle.reg_core.specs.WellKept.{WellKept}
use Rattle.reg_core.specs.World.{World, Place}
use Rattle.reg_core.specs.declared.command.Command.TheVariants.{Clerk}
use Rattle.reg_core.specs.declared.command.ClerkCommand.TheVariants.{Approve}
use Rattle.reg_core.specs.declared.entry.Registration.{Registration}

-- an event leaves an entry as it is; or it approves a renewal or the permanence that the entry's own
-- assignee requested, on its day; or it is a clerk's mark
abbrev pub MovesBy : World → Event → Place → Registration → Registration → Type 0
MovesBy w event place before now =
    (now ≡ before) ⊎ (IsMoved w (utc_day event.moment) event.command place before now
    ⊎ IsMarked (utc_day event.moment) event.command place before now)

-- the events of a run lead from one entry at a place to the other, one event after the other
abbrev pub MovesAlong : (List ℕ → List ℕ) → World → List Event → Place → Registration
    → Registration → Type 0
MovesAlong digest_of w [] place before now = now ≡ before
MovesAlong digest_of w (event ∷ events) place before now =
    let after = (step_of digest_of w event).world in
    (then : Registration) × MovesBy w event place before then
    × (get after.entries place ≡ Some then) × MovesAlong digest_of after events place then now

-- the event approves no request of this account
abbrev pub ApprovesNoneOf : List ℕ → Event → Type 0
ApprovesNoneOf account event =
    (reference : List ℕ) → event.command ≢ Clerk (Approve account reference)

-- in a run from a well kept world each entry stands, and its events lead from what it was to what it is;
-- where none of them approves a request of its assignee, only a clerk's mark may be another
abbrev pub TermsMoveDulyInRuns : (List ℕ → List ℕ) → Type 0
TermsMoveDulyInRuns digest_of =
    (w : World) (events : List Event) (place : Place) (before : Registration) → WellKept w
    → have_forms events ≡ true → get w.entries place ≡ Some before
    → (now : Registration) × (get (world_after digest_of w events).entries place ≡ Some now)
    × MovesAlong digest_of w events place before now
    × (All (ApprovesNoneOf before.assignee) events
    → now ≡ record before { term = held_term now.term.held before.term })
