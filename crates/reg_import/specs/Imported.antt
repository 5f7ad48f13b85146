-- What the lines that make an entry do to an office.
use Rattle.std.specs.Prelude.{◌≡◌, ◌≢◌, ℕ, true, false, List, Some, None, is_some, map, All, codes, Ok}
use Rattle.std.specs.FinMap.{get}
use Rattle.reg_early.specs.Terms.{permanent_term}
use Rattle.reg_early.specs.declared.term.Term.{Term}
use Rattle.reg_ranges.specs.Requirements.{is_expert_policy}
use Rattle.reg_ranges.specs.Tables.{Table, treatment_of}
use Rattle.reg_ranges.specs.declared.policy.Policy.{Policy}
use Rattle.reg_ranges.specs.declared.policy.Treatment.TheVariants.{Under}
use Rattle.reg_core.specs.Laws.{is_refused}
use Rattle.reg_core.specs.Run.{Event, run, world_after}
use Rattle.reg_core.specs.Step.{acts_as_clerk}
use Rattle.reg_core.specs.WellKept.{WellKept}
use Rattle.reg_core.specs.World.{World, Place}
use Rattle.reg_core.specs.declared.advice.Advice.{Advice}
use Rattle.reg_core.specs.declared.advice.Verdict.TheVariants.{For}
use Rattle.reg_core.specs.declared.command.Command.{Command}
use Rattle.reg_core.specs.declared.command.Command.TheVariants.{Applicant, Expert, Clerk}
use Rattle.reg_core.specs.declared.command.ApplicantCommand.TheVariants.{Submit}
use Rattle.reg_core.specs.declared.command.ExpertCommand.TheVariants.{Advise}
use Rattle.reg_core.specs.declared.command.ClerkCommand.TheVariants.{AssignExpert, Approve, SetHold, Grant}
use Rattle.reg_core.specs.declared.entry.Registration.{Registration}
use Rattle.reg_core.specs.declared.reply.Reply.{Reply}
use Rattle.reg_import.specs.Lines.{Errand, grant, submit, assign, advise, approve, hold, Filing, Line, applicant_token, entry_filing, entry_lines, expert_token, renewal_filing}
use Rattle.reg_import.specs.Rows.{row_in}
use Rattle.reg_import.specs.declared.entry.EarlyStanding.{EarlyStanding}
use Rattle.reg_import.specs.declared.entry.ListedEntry.{ListedEntry}
use Rattle.reg_import.specs.declared.entry.ListedStanding.{ListedStanding}
use Rattle.reg_import.specs.declared.entry.ListedStanding.TheVariants.{ForGood, Early}
use Rattle.reg_import.specs.declared.import.Import.{Import}

-- ---- Commands

-- the advice that is given on imported requests
abbrev pub imported : Advice
imported = record { verdict = For; text = codes "imported" }

-- the command that a line asks
abbrev pub command_of : Errand → Command
command_of (grant token account kind until) =
    Clerk (Grant token (record { account = account; kind = kind; until = until }))
command_of (submit reference ask) = Applicant (Submit reference ask)
command_of (assign account reference expert) = Clerk (AssignExpert account reference expert)
command_of (advise account reference) = Expert (Advise account reference imported)
command_of (approve account reference) = Clerk (Approve account reference)
command_of (hold registry value) = Clerk (SetHold registry value true)

-- ---- Worlds

-- the rest of what is published stays, and so does each link
pub record SameRest (old new : World) : Type 0 where
  pub registries : new.registries ≡ old.registries
  pub pool : new.pool ≡ old.pool
  pub blocks : new.blocks ≡ old.blocks
  pub agents : new.agents ≡ old.agents

-- ---- Entries

-- the term that a row says: it was renewed where there is a day of renewal
abbrev pub term_said : ℕ → ListedStanding → Term
term_said first (ForGood evidence) = permanent_term first
term_said first (Early standing) =
    record {
      first = first;
      expires = Some standing.expires;
      renewed = is_some standing.renewal;
      held = standing.held;
    }

-- the entry that a row says
abbrev pub registration_said : ListedEntry → Registration
registration_said entry =
    record {
      label = entry.label;
      assignee = entry.assignee;
      term = term_said entry.first entry.standing;
    }

-- the policy of a value of a registry is this
abbrev pub IsUnderPolicy : World → List ℕ → ℕ → Policy → Type 0
IsUnderPolicy w registry value policy =
    (table : Table) × (get w.registries registry ≡ Some table)
    × (treatment_of table value ≡ Some (Under policy))

module _ (digest_of : List ℕ → List ℕ) where
  -- a line as an event
  abbrev pub event_of : Line → Event
  event_of l = record {
    caller = Some (digest_of l.token);
    moment = l.moment;
    command = command_of l.errand;
  }

  abbrev pub events_of : List Line → List Event
  events_of lines = map event_of lines

  -- ---- What the lines need

  -- the clerk may act at the moment of a filing; its tokens are nobody's yet, and have digests of their
  -- own; and its reference is not in use
  pub record FilingIsNew (w : World) (by : Import) (f : Filing) : Type 0 where
    pub clerk : acts_as_clerk (get w.caps (digest_of by.clerk)) f.moment ≡ true
    pub applicant : get w.caps (digest_of (applicant_token by f)) ≡ None
    pub expert : f.reviewed ≡ true → get w.caps (digest_of (expert_token by f)) ≡ None
    pub apart : f.reviewed ≡ true
        → digest_of (expert_token by f) ≢ digest_of (applicant_token by f)
    pub reference : get w.requests (f.account, f.reference) ≡ None

  -- so it is of the renewal of an entry on a day, and its token is none of those before
  pub record IsNewRenewal (w : World) (by : Import) (entry : ListedEntry)
      (standing : EarlyStanding) (day : ℕ) : Type 0 where
    pub new : FilingIsNew w by (renewal_filing by entry standing day)
    pub other : digest_of (applicant_token by (renewal_filing by entry standing day))
        ≢ digest_of (applicant_token by (entry_filing by entry))
    pub another : is_expert_policy entry.policy ≡ true
        → digest_of (applicant_token by (renewal_filing by entry standing day))
        ≢ digest_of (expert_token by (entry_filing by entry))

  abbrev pub RenewalsAreNew : World → Import → ListedEntry → ListedStanding → Type 0
  RenewalsAreNew w by entry (ForGood evidence) = Unit {0}
  RenewalsAreNew w by entry (Early standing) =
      (day : ℕ) → standing.renewal ≡ Some day → IsNewRenewal w by entry standing day

  -- the office is well kept, the value is free and under the policy that the row says, and the names
  -- that the lines use are new
  pub record IsReadyFor (w : World) (by : Import) (entry : ListedEntry) : Type 0 where
    pub kept : WellKept w
    pub policy : IsUnderPolicy w by.registry entry.value entry.policy
    pub free : get w.entries (by.registry, entry.value) ≡ None
    pub new : FilingIsNew w by (entry_filing by entry)
    pub renewal : RenewalsAreNew w by entry entry.standing

  -- ---- What they do

  -- each line is accepted; the value has exactly the entry that the row says, and all else that is
  -- published stays
  pub record AreMade (w : World) (by : Import) (entry : ListedEntry) (lines : List Event)
      (after : World) : Type 0 where
    pub accepted : All (λ (reply : Reply). is_refused reply ≡ false) (run digest_of w lines)
    pub made : get after.entries (by.registry, entry.value) ≡ Some (registration_said entry)
    pub others : (place : Place) → place ≢ (by.registry, entry.value)
        → get after.entries place ≡ get w.entries place
    pub registries : after.registries ≡ w.registries
    pub pool : after.pool ≡ w.pool
    pub blocks : after.blocks ≡ w.blocks
    pub agents : after.agents ≡ w.agents

  -- the lines of a row make its entry
  abbrev pub EntriesAreMade : Type 0
  EntriesAreMade =
      (w : World) (by : Import) (header row : List (List ℕ)) (entry : ListedEntry)
      → row_in by header row ≡ Ok (Some entry) → IsReadyFor w by entry
      → AreMade w by entry (events_of (entry_lines by entry))
      (world_after digest_of w (events_of (entry_lines by entry)))
