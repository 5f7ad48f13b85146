-- What is so of the blocks that an office gives, in the words of the pool and of addresses.
use Rattle.std.specs.Prelude.{◌≡◌, ◌↔◌, ◌⊎◌, ℕ, Bool, true, false, List, Option, Some, IsSome, IsNone, IfSome}
use Rattle.std.specs.FinMap.{get, contains_key, keys}
use Rattle.reg_blocks.specs.Block.{SizedPrefix, Clash, leading_24}
use Rattle.reg_blocks.specs.Due.{IsDue, NoneIsFree}
use Rattle.reg_blocks.specs.declared.size.Size.{Size}
use Rattle.reg_core.specs.Answer.{change_of}
use Rattle.reg_core.specs.BlockDue.{due_in}
use Rattle.reg_core.specs.Laws.{AreAlike, IsNoClerk}
use Rattle.reg_core.specs.Run.{Event, have_forms, world_after}
use Rattle.reg_core.specs.Step.{answer_to, step}
use Rattle.reg_core.specs.View.{cap_at}
use Rattle.reg_core.specs.WellKept.{WellKept}
use Rattle.reg_core.specs.World.{World, RequestName, pending}
use Rattle.reg_core.specs.declared.ask.Ask.TheVariants.{Block}
use Rattle.reg_core.specs.declared.ask.BlockAsk.{BlockAsk}
use Rattle.reg_core.specs.declared.capability.Cap.{Cap}
use Rattle.reg_core.specs.declared.change.Change.TheVariants.{Submit, GiveBlock}
use Rattle.reg_core.specs.declared.command.Command.{Command}
use Rattle.reg_core.specs.declared.command.Command.TheVariants.{Applicant}
use Rattle.reg_core.specs.declared.command.ApplicantCommand.TheVariants.{SetListing}
use Rattle.reg_core.specs.declared.holding.Holder.{Holder}
use Rattle.reg_core.specs.declared.holding.Holding.{Holding}
use Rattle.reg_core.specs.declared.request.Case.{Case}
use Rattle.reg_core.specs.declared.request.Given.TheVariants as given
use Rattle.reg_core.specs.declared.request.State.TheVariants.{Approved}

-- ---- No address is given twice

-- each block that was given lies in a prefix of the pool, and no two share an address
pub record StandApart (w : World) : Type 0 where
  pub in_pool : (block : SizedPrefix) → IsSome (get w.blocks block)
      → contains_key w.pool (leading_24 block) ≡ true
  pub apart : (a b : SizedPrefix) → IsSome (get w.blocks a) → IsSome (get w.blocks b)
      → Clash a b → a ≡ b

-- so it is in every run
abbrev pub BlocksAreApart : (List ℕ → List ℕ) → Type 0
BlocksAreApart digest_of =
    (w : World) (events : List Event) → WellKept w → have_forms events ≡ true
    → StandApart (world_after digest_of w events)

-- ---- The block due

-- the block is the free one of its size with the least first address, of the pool of this world
abbrev pub IsDueIn : World → Size → SizedPrefix → Type 0
IsDueIn w size block = IsDue (keys w.pool) (keys w.blocks) size block

abbrev pub NoneIsFreeIn : World → Size → Type 0
NoneIsFreeIn w size = NoneIsFree (keys w.pool) (keys w.blocks) size

-- what is found is the block due, and nothing is found exactly where none is free
pub record FindsBlockDue (w : World) (size : Size) : Type 0 where
  pub due : IfSome (due_in w.pool w.blocks size) (IsDueIn w size)
  pub none : IsNone (due_in w.pool w.blocks size) ↔ NoneIsFreeIn w size

abbrev pub BlocksDueAreLeast : Type 0
BlocksDueAreLeast = (w : World) (size : Size) → FindsBlockDue w size

-- ---- What an ask for a block is given

-- the block that a pending request of an account is given: the one due of the size that it names,
-- with the organization and the address that it names, in the name of the account, who is listed
pub record IsBlockGivenDuly (w : World) (account reference : List ℕ) (holding : Holding) :
    Type 0 where
  pub ask : BlockAsk
  pub request : get w.requests (account, reference) ≡ Some (pending (Block ask))
  pub due : IsDueIn w ask.size holding.block
  pub holder : holding.holder ≡ account
  pub organization : holding.organization ≡ ask.organization
  pub address : holding.address ≡ ask.address
  pub listed : holding.private ≡ false

-- a request is taken in where a block of its size is free, and is given the one due; and what was
-- approved has its block, of that size, which the applicant's account holds
pub record BlockAsksAreServedDuly (digest_of : List ℕ → List ℕ) : Type 0 where
  pub submitted : (w : World) (caller : Option (List ℕ)) (moment : ℕ) (command : Command)
      (account reference : List ℕ) (ask : BlockAsk)
      → change_of (answer_to digest_of w caller moment command)
      ≡ Some (Submit account reference (Block ask))
      → (block : SizedPrefix) × IsDueIn w ask.size block
  pub approved : (w : World) (caller : Option (List ℕ)) (moment : ℕ) (command : Command)
      (account reference : List ℕ) (holding : Holding)
      → change_of (answer_to digest_of w caller moment command)
      ≡ Some (GiveBlock account reference holding)
      → IsBlockGivenDuly w account reference holding
  pub stands : (w : World) (name : RequestName) (case : Case) (ask : BlockAsk)
      (block : SizedPrefix) → WellKept w → get w.requests name ≡ Some case
      → case.ask ≡ Block ask → case.state ≡ Approved (given.Block block)
      → (block.size ≡ ask.size)
      × (h : Holder) × (get w.blocks block ≡ Some h) × (h.account ≡ name.0)

-- ---- Private holders

-- both are private, and neither is this caller's account
pub record AreHidden (caller : Option Cap) (h k : Holder) : Type 0 where
  pub first : h.private ≡ true
  pub second : k.private ≡ true
  pub not_first : (cap : Cap) → caller ≡ Some cap → ¬ (h.account ≡ cap.account)
  pub not_second : (cap : Cap) → caller ≡ Some cap → ¬ (k.account ≡ cap.account)

-- the second world is the first one, but for private holders of the same blocks, who are others
-- than the caller
pub record DifferInPrivateHolders (caller : Option Cap) (w v : World) : Type 0 where
  pub others : v ≡ record w { blocks = v.blocks }
  pub same_blocks : (block : SizedPrefix)
      → contains_key w.blocks block ≡ contains_key v.blocks block
  pub hidden : (block : SizedPrefix) (h k : Holder) → get w.blocks block ≡ Some h
      → get v.blocks block ≡ Some k → (h ≡ k) ⊎ AreHidden caller h k

-- who holds a private block, and with which organization and address, shows in no answer to
-- another caller who is no clerk, and in nothing that this caller is shown
abbrev pub PrivateHoldersAreHidden : (List ℕ → List ℕ) → Type 0
PrivateHoldersAreHidden digest_of =
    (w v : World) (caller : Option (List ℕ)) (moment : ℕ) (command : Command)
    → WellKept w → WellKept v → IsNoClerk w caller
    → DifferInPrivateHolders (cap_at w caller) w v
    → AreAlike digest_of w v caller moment command

-- ---- Blocks of others

-- the caller does not hold the block
abbrev pub IsNotHeld : World → Option Cap → SizedPrefix → Type 0
IsNotHeld w caller block =
    (cap : Cap) (h : Holder) → caller ≡ Some cap → get w.blocks block ≡ Some h
    → ¬ (h.account ≡ cap.account)

-- who says how a block is listed that it does not hold is answered alike for every such block,
-- whether another holds it or nobody does, and nothing changes
abbrev pub ForeignBlocksAreHidden : (List ℕ → List ℕ) → Type 0
ForeignBlocksAreHidden digest_of =
    (w : World) (caller : Option (List ℕ)) (moment : ℕ) (a b : SizedPrefix) (private other : Bool)
    → IsNotHeld w (cap_at w caller) a → IsNotHeld w (cap_at w caller) b
    → let first = step digest_of w caller moment (Applicant (SetListing a private)) in
    let second = step digest_of w caller moment (Applicant (SetListing b other)) in
    (first.reply ≡ second.reply) × (first.world ≡ w) × (second.world ≡ w)
