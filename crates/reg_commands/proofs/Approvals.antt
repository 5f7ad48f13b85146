-- The published rows that an approval is decided over.
use Rattle.std.proofs.Common.{◌≡◌, ℕ, Bool, true, refl, ap}
use Rattle.reg_core.specs.Allowance.{Ground}
use Rattle.reg_core.specs.Request.{is_pending}
use Rattle.reg_core.specs.Rules.{approve_rule}
use Rattle.reg_core.specs.World.{RequestName}
use Rattle.reg_core.specs.declared.ask.Ask.{Ask}
use Rattle.reg_core.specs.declared.request.State.{State}
use Rattle.reg_core.specs.declared.request.State.TheVariants.{Pending, Approved, Declined, Withdrawn}

-- they are of no account where the request is not pending
pub approve_read : (rows published : Ground) (advised : Bool) (name : RequestName) (ask : Ask)
    (today : ℕ) (state : State) → (is_pending state ≡ true → rows ≡ published)
    → approve_rule rows advised name ask today state
    ≡ approve_rule published advised name ask today state
approve_read rows published advised name ask today Pending same =
    ap (λ rows. approve_rule rows advised name ask today Pending) (same refl)
approve_read rows published advised name ask today (Approved given) same = refl
approve_read rows published advised name ask today (Declined reason) same = refl
approve_read rows published advised name ask today Withdrawn same = refl
