-- What is so of agents, who may read the requests of those who named them.
use Rattle.std.specs.Prelude.{◌≡◌, ◌⊎◌, ℕ, Bool, List, Option, Some}
use Rattle.std.specs.FinMap.{contains_key}
use Rattle.reg_core.specs.Step.{step}
use Rattle.reg_core.specs.View.{cap_at}
use Rattle.reg_core.specs.World.{World, Link}
use Rattle.reg_core.specs.declared.capability.Cap.{Cap}
use Rattle.reg_core.specs.declared.capability.Kind.TheVariants as kind
use Rattle.reg_core.specs.declared.command.Command.{Command}
use Rattle.reg_core.specs.declared.command.Command.TheVariants.{Applicant}
use Rattle.reg_core.specs.declared.command.ApplicantCommand.TheVariants.{SetAgent}

-- the principal of a link says of its agent, with an applicant's capability of its own, whether it
-- reads, and that is so from then on
pub record IsSaid (w v : World) (caller : Option (List ℕ)) (command : Command) (link : Link) :
    Type 0 where
  pub reads : Bool
  pub by : command ≡ Applicant (SetAgent link.1 reads)
  pub cap : Cap
  pub has : cap_at w caller ≡ Some cap
  pub own : cap.account ≡ link.0
  pub kind : cap.kind ≡ kind.Applicant
  pub is : contains_key v.agents link ≡ reads

-- whatever a command does, each link is there after it as before, or its principal said so
abbrev pub LinksAreTheirPrincipals : (List ℕ → List ℕ) → Type 0
LinksAreTheirPrincipals digest_of =
    (w : World) (caller : Option (List ℕ)) (moment : ℕ) (command : Command) (link : Link)
    → let v = (step digest_of w caller moment command).world in
    (contains_key v.agents link ≡ contains_key w.agents link) ⊎ IsSaid w v caller command link
