-- Why a command comes to nothing.
use Rattle.std.specs.Prelude.{◌≡◌, Bool, Result, Err}
use Rattle.reg_core.specs.declared.decide.Deny.{Deny}
use Rattle.reg_core.specs.declared.decide.Deny.TheVariants as deny
use Rattle.reg_core.specs.declared.refusal.Refusal.{Refusal}
use Rattle.reg_keeper.specs.Keeper.{MayFault}
use Rattle.reg_keeper.specs.declared.keeper.Fault.TheVariants.{Memory}
use Rattle.reg_registers.specs.declared.stop.Stop.{Stop}
use Rattle.reg_registers.specs.declared.stop.Stop.TheVariants.{Refused, Fault}

-- why there is no decision, as it stops a command
abbrev pub stop_of : Deny → Stop
stop_of (deny.Refused refusal) = Refused refusal
stop_of deny.Memory = Fault Memory

abbrev pub MayStop : Bool → Stop → Type 0
MayStop fails (Refused refusal) = Unit {0}
MayStop fails (Fault fault) = MayFault fails fault

-- where it is a refusal, the model refuses so
abbrev pub Refuses : {T : Type 0} → Result T Refusal → Stop → Type 0
Refuses outcome (Refused refusal) = outcome ≡ Err refusal
Refuses outcome (Fault fault) = Unit {0}
