-- What a clerk lists, in other words: all requests, and the acts that are so.
use Rattle.std.specs.Prelude.{◌≡◌, ◌⊎◌, ℕ, List, [], ◌∷◌, ◌++◌, map, Option, Some, All, Contains}
use Rattle.std.specs.FinMap.{get}
use Rattle.std.specs.List.Sorted.{IsStrictlySortedBy}
use Rattle.reg_early.specs.Moment.{utc_day}
use Rattle.reg_core.specs.Journal.{deed_about}
use Rattle.reg_core.specs.Lists.{HasRow, IsRow}
use Rattle.reg_core.specs.Step.{step}
use Rattle.reg_core.specs.World.{World, name_cmp}
use Rattle.reg_core.specs.declared.command.ClerkCommand.{ClerkCommand}
use Rattle.reg_core.specs.declared.command.ClerkCommand.TheVariants.{AllRequests, ActsAbout, ActsBy, ActsOn}
use Rattle.reg_core.specs.declared.command.Command.TheVariants.{Clerk}
use Rattle.reg_core.specs.declared.journal.Act.{Act}
use Rattle.reg_core.specs.declared.journal.Actor.{Actor}
use Rattle.reg_core.specs.declared.reply.Reply.TheVariants.{Accepted}
use Rattle.reg_core.specs.declared.request.Case.{Case}
use Rattle.reg_core.specs.declared.request.Request.{Request}
use Rattle.reg_core.specs.declared.told.Told.{Told}
use Rattle.reg_core.specs.declared.told.Told.TheVariants.{Acts, ActsAbout as ActsOf, Desks}

-- a clerk's command at a moment is accepted, and the clerk is told this
abbrev pub IsToldClerk : (List ℕ → List ℕ) → World → Option (List ℕ) → ℕ → ClerkCommand → Told
    → Type 0
IsToldClerk digest_of w caller moment command told =
    (step digest_of w caller moment (Clerk command)).reply ≡ Accepted told

-- ---- All requests

-- the rows are all requests
pub record RequestList (w : World) (rows : List Request) : Type 0 where
  -- each is of a request, as it is
  pub only : All (HasRow w) rows
  -- each request has its row among them
  pub every : (account reference : List ℕ) (case : Case)
      → get w.requests (account, reference) ≡ Some case
      → (row : Request) × Contains rows row × IsRow w account reference row
  -- they ascend by account and reference, so no request has two
  pub ascending : IsStrictlySortedBy name_cmp (map (λ row. (row.account, row.reference)) rows)

-- a clerk who is told of all requests is told of just these
abbrev pub AllRequestsAreListed : (List ℕ → List ℕ) → Type 0
AllRequestsAreListed digest_of =
    (w : World) (caller : Option (List ℕ)) (moment : ℕ) (rows : List Request)
    → IsToldClerk digest_of w caller moment AllRequests (Desks rows) → RequestList w rows

-- ---- Acts

-- the acts are those of a journal that are so, the oldest first; the journal begins with its latest act
abbrev pub AreActsThat : (Act → Type 0) → List Act → List Act → Type 0
AreActsThat Is [] acts = acts ≡ []
AreActsThat Is (latest ∷ journal) acts =
    (Is latest × (older : List Act) × (acts ≡ older ++ latest ∷ []) × AreActsThat Is journal older)
    ⊎ ((¬ (Is latest)) × AreActsThat Is journal acts)

-- it has a moment, which is on this day
abbrev pub IsActOn : ℕ → Act → Type 0
IsActOn day act = (moment : ℕ) × (act.stamp.moment ≡ Some moment) × (utc_day moment ≡ day)

-- it was made by a token of this account
abbrev pub IsActBy : List ℕ → Act → Type 0
IsActBy account act = (actor : Actor) × (act.stamp.by ≡ Some actor) × (actor.account ≡ account)

-- it was about this request
abbrev pub IsActAbout : List ℕ → List ℕ → Act → Type 0
IsActAbout account reference act = deed_about act.deed ≡ Some (account, reference)

-- a clerk who is told of acts is told of just those in the journal that it asks for
pub record ActsAreListed (digest_of : List ℕ → List ℕ) : Type 0 where
  pub on_day : (w : World) (caller : Option (List ℕ)) (moment day : ℕ) (acts : List Act)
      → IsToldClerk digest_of w caller moment (ActsOn day) (Acts acts)
      → AreActsThat (IsActOn day) w.journal acts
  pub by_account : (w : World) (caller : Option (List ℕ)) (moment : ℕ) (account : List ℕ)
      (acts : List Act)
      → IsToldClerk digest_of w caller moment (ActsBy account) (Acts acts)
      → AreActsThat (IsActBy account) w.journal acts
  pub about : (w : World) (caller : Option (List ℕ)) (moment : ℕ) (account reference : List ℕ)
      (acts : List Act)
      → IsToldClerk digest_of w caller moment (ActsAbout account reference) (ActsOf acts)
      → AreActsThat (IsActAbout account reference) w.journal acts
