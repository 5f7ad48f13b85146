-- What a clerk is told by counts, in other words: how many things of each kind there are.
use Rattle.std.specs.Prelude.{◌≡◌, ◌≢◌, ◌⊎◌, ◌<◌, ◌≤◌, ℕ, true, false, List, length, Option, Some, IsSome, All, AllPairs, Contains}
use Rattle.std.specs.FinMap.{get, contains_key}
use Rattle.reg_blocks.specs.Block.{SizedPrefix}
use Rattle.reg_early.specs.Moment.{utc_day}
use Rattle.reg_core.specs.Step.{step}
use Rattle.reg_core.specs.WellKept.{WellKept}
use Rattle.reg_core.specs.World.{World, Link, Place}
use Rattle.reg_core.specs.declared.capability.Cap.{Cap}
use Rattle.reg_core.specs.declared.command.ClerkCommand.TheVariants.{CountRows}
use Rattle.reg_core.specs.declared.command.Command.TheVariants.{Clerk}
use Rattle.reg_core.specs.declared.counts.Counts.{Counts as CountsOf}
use Rattle.reg_core.specs.declared.entry.Registration.{Registration}
use Rattle.reg_core.specs.declared.reply.Reply.TheVariants.{Accepted}
use Rattle.reg_core.specs.declared.told.Told.TheVariants.{Counts}

-- so many things are so: some list has each of them, nothing else, and nothing twice
pub record AreSoMany {A : Type 0} (Is : A → Type 0) (count : ℕ) : Type 0 where
  pub things : List A
  pub only : All Is things
  pub every : (thing : A) → Is thing → Contains things thing
  pub once : AllPairs (λ a b. a ≢ b) things
  pub many : length things ≡ count

-- at the place stands an entry that is so
abbrev pub HasEntryThat : World → (Registration → Type 0) → Place → Type 0
HasEntryThat w Is place = (a : Registration) × (get w.entries place ≡ Some a) × Is a

-- it has an expiry day, which has not come on this day, or a clerk holds it
abbrev pub IsTemporaryOn : ℕ → Registration → Type 0
IsTemporaryOn today a =
    (expiry : ℕ) × (a.term.expires ≡ Some expiry) × ((today < expiry) ⊎ (a.term.held ≡ true))

-- it has one, which has come, and no clerk holds it
abbrev pub IsExpiredOn : ℕ → Registration → Type 0
IsExpiredOn today a =
    (expiry : ℕ) × (a.term.expires ≡ Some expiry) × (expiry ≤ today) × (a.term.held ≡ false)

-- a capability at this digest is valid at a moment
abbrev pub IsValidAt : World → ℕ → List ℕ → Type 0
IsValidAt w moment digest =
    (cap : Cap) × (get w.caps digest ≡ Some cap) × (moment < cap.until)

-- each number is of just the things of its kind
pub record AreCounts (w : World) (moment : ℕ) (given : CountsOf) : Type 0 where
  pub registries : AreSoMany (λ (name : List ℕ). IsSome (get w.registries name)) given.registries
  pub entries : AreSoMany (λ (place : Place). IsSome (get w.entries place)) given.entries.all
  pub temporary : AreSoMany (HasEntryThat w (IsTemporaryOn (utc_day moment)))
      given.entries.temporary
  pub expired : AreSoMany (HasEntryThat w (IsExpiredOn (utc_day moment))) given.entries.expired
  pub held : AreSoMany (HasEntryThat w (λ a. a.term.held ≡ true)) given.entries.held
  pub caps : AreSoMany (λ (digest : List ℕ). IsSome (get w.caps digest)) given.caps.all
  pub valid : AreSoMany (IsValidAt w moment) given.caps.valid
  pub prefixes : AreSoMany (λ (prefix : ℕ). contains_key w.pool prefix ≡ true) given.prefixes
  pub blocks : AreSoMany (λ (block : SizedPrefix). IsSome (get w.blocks block)) given.blocks
  pub agents : AreSoMany (λ (link : Link). contains_key w.agents link ≡ true) given.agents

-- a clerk who is told counts of a well kept world is told these
abbrev pub CountsAreExact : (List ℕ → List ℕ) → Type 0
CountsAreExact digest_of =
    (w : World) (caller : Option (List ℕ)) (moment : ℕ) (given : CountsOf) → WellKept w
    → (step digest_of w caller moment (Clerk CountRows)).reply ≡ Accepted (Counts given)
    → AreCounts w moment given
