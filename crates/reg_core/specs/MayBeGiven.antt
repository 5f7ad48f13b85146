-- What is so of a value that is given, in the words of its registry and of the policy of its range.
use Rattle.std.specs.Prelude.{◌≡◌, ◌<◌, ℕ, List, [], true, false, Option, Some, None, Ok, IsSome, is_some}
use Rattle.std.specs.FinMap.{get}
use Rattle.reg_early.specs.EarlyRequirements.{early_unmet}
use Rattle.reg_early.specs.Moment.{utc_day}
use Rattle.reg_early.specs.Terms.{permanent_term, early_term, renewal, settlement}
use Rattle.reg_early.specs.declared.term.Term.{Term}
use Rattle.reg_ranges.specs.Requirements.{is_closed_policy, unmet}
use Rattle.reg_ranges.specs.Tables.{Table, treatment_of}
use Rattle.reg_ranges.specs.declared.policy.Policy.{Policy}
use Rattle.reg_ranges.specs.declared.policy.Treatment.TheVariants.{Under}
use Rattle.reg_core.specs.Answer.{change_of}
use Rattle.reg_core.specs.Ask.{registry_of}
use Rattle.reg_core.specs.Command.{has_command_form}
use Rattle.reg_core.specs.Run.{Event, have_forms, world_after}
use Rattle.reg_core.specs.Step.{answer_to, step}
use Rattle.reg_core.specs.WellKept.{WellKept}
use Rattle.reg_core.specs.World.{World, RequestName, Place, pending}
use Rattle.reg_core.specs.declared.ask.Ask.{Ask}
use Rattle.reg_core.specs.declared.ask.Ask.TheVariants.{Code, Early, Renew, Permanent, Block}
use Rattle.reg_core.specs.declared.ask.CodeAsk.{CodeAsk}
use Rattle.reg_core.specs.declared.ask.EarlyAsk.{EarlyAsk}
use Rattle.reg_core.specs.declared.ask.PermanenceAsk.{PermanenceAsk}
use Rattle.reg_core.specs.declared.ask.RenewalAsk.{RenewalAsk}
use Rattle.reg_core.specs.declared.ask.Want.{Want}
use Rattle.reg_core.specs.declared.ask.Want.TheVariants.{Value, Least}
use Rattle.reg_core.specs.declared.change.Change.TheVariants.{Submit, GiveValue}
use Rattle.reg_core.specs.declared.command.Command.{Command}
use Rattle.reg_core.specs.declared.entry.Entry.{Entry}
use Rattle.reg_core.specs.declared.entry.Registration.{Registration}
use Rattle.reg_core.specs.declared.request.Case.{Case}
use Rattle.reg_core.specs.declared.request.Given.TheVariants as given
use Rattle.reg_core.specs.declared.request.State.TheVariants.{Approved}

-- ---- Values

-- the value lies in a range of the registry, under a policy by which values are assigned one by one
pub record IsUnder (w : World) (registry : List ℕ) (v : ℕ) (policy : Policy) : Type 0 where
  pub table : Table
  pub is_there : get w.registries registry ≡ Some table
  pub range : treatment_of table v ≡ Some (Under policy)
  pub one_by_one : is_closed_policy policy ≡ false

-- each value of the registry below this one that lies under the policy has an entry
abbrev pub NoneIsFreeBelow : World → List ℕ → Policy → ℕ → Type 0
NoneIsFreeBelow w registry policy v =
    (u : ℕ) → u < v → IsUnder w registry u policy → IsSome (get w.entries (registry, u))

-- the value is the one asked for, or the least without an entry under the policy that is asked for
abbrev pub IsWanted : World → List ℕ → Want → Policy → ℕ → Type 0
IsWanted w registry (Value asked) policy v = asked ≡ v
IsWanted w registry (Least asked) policy v =
    (asked ≡ policy) × NoneIsFreeBelow w registry policy v

-- the value is wanted, and lies under a policy by which values are assigned one by one; nothing is
-- missing of the evidence that this policy asks for (RFC 8126 section 4); and no entry stands at
-- the value
pub record MayBeGiven (w : World) (ask : CodeAsk) (v : ℕ) : Type 0 where
  pub policy : Policy
  pub under : IsUnder w ask.registry v policy
  pub wanted : IsWanted w ask.registry ask.want policy v
  pub evidence : unmet policy ask.evidence ≡ []
  pub free : get w.entries (ask.registry, v) ≡ None

-- the same, where nothing is missing of what an early allocation under this policy asks for (RFC
-- 7120 section 2)
pub record MayBeGivenEarly (w : World) (ask : EarlyAsk) (v : ℕ) : Type 0 where
  pub policy : Policy
  pub under : IsUnder w ask.registry v policy
  pub wanted : IsWanted w ask.registry ask.want policy v
  pub evidence : early_unmet policy ask.evidence ≡ []
  pub free : get w.entries (ask.registry, v) ≡ None

-- the entry stands at the value, and is the account's own
pub record IsOwnEntry (w : World) (account registry : List ℕ) (v : ℕ) (a : Registration) :
    Type 0 where
  pub stands : get w.entries (registry, v) ≡ Some a
  pub own : a.assignee ≡ account

-- an entry of the account's own stands at the value, and nothing is missing of what an early
-- allocation asks for
pub record MayBeRenewed (w : World) (account : List ℕ) (ask : RenewalAsk) (a : Registration) :
    Type 0 where
  pub policy : Policy
  pub under : IsUnder w ask.registry ask.value policy
  pub evidence : early_unmet policy ask.evidence ≡ []
  pub entry : IsOwnEntry w account ask.registry ask.value a

-- an entry of the account's own stands at the value, and nothing is missing of the evidence that
-- its policy asks for
pub record MayBeSettled (w : World) (account : List ℕ) (ask : PermanenceAsk) (a : Registration) :
    Type 0 where
  pub policy : Policy
  pub under : IsUnder w ask.registry ask.value policy
  pub evidence : unmet policy ask.evidence ≡ []
  pub entry : IsOwnEntry w account ask.registry ask.value a

-- ---- What is taken in

-- an ask of an account is taken in where some value may be given to it, or where its entry can be
-- renewed or made permanent, on whatever day it is approved; what is so of blocks is said where
-- they are
abbrev pub IsAskedDuly : World → List ℕ → Ask → Type 0
IsAskedDuly w account (Code ask) = (v : ℕ) × MayBeGiven w ask v
IsAskedDuly w account (Early ask) = (v : ℕ) × MayBeGivenEarly w ask v
IsAskedDuly w account (Renew ask) =
    (a : Registration) × MayBeRenewed w account ask a
    × ((day : ℕ) → (term : Term) × (renewal a.term day (is_some ask.iesg) ≡ Ok term))
IsAskedDuly w account (Permanent ask) =
    (a : Registration) × MayBeSettled w account ask a
    × (term : Term) × (settlement a.term ≡ Ok term)
IsAskedDuly w account (Block ask) = Unit {0}

-- ---- What is given

-- the entry is of this registry, with this label, in the name of the account, in this term
pub record IsEntry (account registry label : List ℕ) (term : Term) (entry : Entry) :
    Type 0 where
  pub registry_is : entry.registry ≡ registry
  pub label_is : entry.label ≡ label
  pub assignee_is : entry.assignee ≡ account
  pub term_is : entry.term ≡ term

-- what an ask of an account is given on a day: a new entry, from that day on, for good or for a
-- year, at a value that may be given; or the entry of its own that stands, renewed on that day or
-- without its expiry
abbrev pub IsDuly : World → ℕ → List ℕ → Ask → Entry → Type 0
IsDuly w today account (Code ask) entry =
    IsEntry account ask.registry ask.label (permanent_term today) entry
    × MayBeGiven w ask entry.value
IsDuly w today account (Early ask) entry =
    IsEntry account ask.registry ask.label (early_term today) entry
    × MayBeGivenEarly w ask entry.value
IsDuly w today account (Renew ask) entry =
    (entry.value ≡ ask.value) × (a : Registration) × (term : Term)
    × IsEntry account ask.registry a.label term entry × MayBeRenewed w account ask a
    × (renewal a.term today (is_some ask.iesg) ≡ Ok term)
IsDuly w today account (Permanent ask) entry =
    (entry.value ≡ ask.value) × (a : Registration) × (term : Term)
    × IsEntry account ask.registry a.label term entry × MayBeSettled w account ask a
    × (settlement a.term ≡ Ok term)
IsDuly w today account (Block ask) entry = ⊥

-- a pending request of an account is given what its ask is given
pub record IsGivenDuly (w : World) (today : ℕ) (account reference : List ℕ) (entry : Entry) :
    Type 0 where
  pub ask : Ask
  pub request : get w.requests (account, reference) ≡ Some (pending ask)
  pub duly : IsDuly w today account ask entry

-- a request is taken in where it may be served, and is given its entry duly; and what was approved
-- has its entry, of the applicant's account
pub record AsksMeetTheirPolicy (digest_of : List ℕ → List ℕ) : Type 0 where
  pub submitted : (w : World) (caller : Option (List ℕ)) (moment : ℕ) (command : Command)
      (account reference : List ℕ) (ask : Ask) → WellKept w
      → change_of (answer_to digest_of w caller moment command)
      ≡ Some (Submit account reference ask)
      → IsAskedDuly w account ask
  pub approved : (w : World) (caller : Option (List ℕ)) (moment : ℕ) (command : Command)
      (account reference : List ℕ) (entry : Entry) → WellKept w
      → change_of (answer_to digest_of w caller moment command)
      ≡ Some (GiveValue account reference entry)
      → IsGivenDuly w (utc_day moment) account reference entry
  pub stands : (w : World) (name : RequestName) (case : Case) (registry : List ℕ) (v : ℕ)
      → WellKept w → get w.requests name ≡ Some case → registry_of case.ask ≡ Some registry
      → case.state ≡ Approved (given.Value v)
      → (a : Registration) × (get w.entries (registry, v) ≡ Some a) × (a.assignee ≡ name.0)

-- ---- No value twice

-- the registry and the value of an entry
abbrev pub place_of : Entry → Place
place_of entry = (entry.registry, entry.value)

-- the same entry, whatever its term: with the same label, assigned to the same account on the same
-- day
pub record IsSameEntry (entry other : Entry) : Type 0 where
  pub label : other.label ≡ entry.label
  pub assignee : other.assignee ≡ entry.assignee
  pub first : other.term.first ≡ entry.term.first

-- in a run from a well kept world, what is given at a value after an entry was given there is the
-- same entry, in another term
abbrev pub NoValueIsGivenTwice : (List ℕ → List ℕ) → Type 0
NoValueIsGivenTwice digest_of =
    (w : World) (caller later_caller : Option (List ℕ)) (moment later_moment : ℕ)
    (command later : Command) (events : List Event)
    (account reference other_account other_reference : List ℕ) (entry other : Entry)
    → WellKept w → has_command_form command ≡ true → have_forms events ≡ true
    → change_of (answer_to digest_of w caller moment command)
    ≡ Some (GiveValue account reference entry)
    → let v = world_after digest_of (step digest_of w caller moment command).world events in
    change_of (answer_to digest_of v later_caller later_moment later)
    ≡ Some (GiveValue other_account other_reference other)
    → place_of entry ≡ place_of other → IsSameEntry entry other
