-- The first clerk.
use Rattle.std.specs.Prelude.{◌≡◌, Bool, true, false, List, None, ℕ}
use Rattle.reg_core.specs.Answer.{reply_of, change_of}
use Rattle.reg_core.specs.Journal.{recorded_if, stamp_of_job}
use Rattle.reg_core.specs.Laws.{clerk_cap, is_refused}
use Rattle.reg_core.specs.Names.{is_token}
use Rattle.reg_core.specs.World.{World}
use Rattle.reg_core.specs.declared.journal.Stamp.{Stamp}
use Rattle.reg_keeper.specs.Keeper.{MayFault}
use Rattle.reg_registers.specs.Answers.{answer_to_grant}
use Rattle.reg_office.specs.declared.found.FoundFault.{FoundFault}
use Rattle.reg_office.specs.declared.found.FoundFault.TheVariants.{Token, Exists, Fault}

-- the first clerk's capability was granted as any other is, with its act
pub record WasFoundedBy (stamp : Stamp) (old new : World) (token : List ℕ) : Type 0 where
  pub accepted : is_refused (reply_of (answer_to_grant token clerk_cap old)) ≡ false
  pub granted : new ≡ recorded_if stamp old (change_of (answer_to_grant token clerk_cap old))

-- and the act has no moment
abbrev pub WasFounded : World → World → List ℕ → Type 0
WasFounded = WasFoundedBy (stamp_of_job None)

abbrev pub IsCause : World → List ℕ → FoundFault → Type 0
IsCause w token Token = is_token token ≡ false
IsCause w token Exists = is_refused (reply_of (answer_to_grant token clerk_cap w)) ≡ true
IsCause w token (Fault fault) = Unit {0}

abbrev pub MayFound : Bool → FoundFault → Type 0
MayFound fails Token = Unit {0}
MayFound fails Exists = Unit {0}
MayFound fails (Fault fault) = MayFault fails fault
