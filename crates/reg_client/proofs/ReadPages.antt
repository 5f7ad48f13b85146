-- What answers tell.
use Rattle.std.proofs.Common.{◌≡◌, Result, Ok, Err, sym, subst}
use Rattle.std.specs.Prelude.{IfOk}
use Rattle.reg_core.specs.declared.command.PublicCommand.{PublicCommand}
use Rattle.reg_core.specs.declared.told.Told.{Told}
use Rattle.reg_client.specs.Reading.{IsToldBy}

-- the same is told by the same answer
pub told_as : {E : Type 0} (result : Result Told E) (command : PublicCommand) (told : Told)
    → IsToldBy command told → IfOk result (λ t. t ≡ told) → IfOk result (IsToldBy command)
told_as (Ok t) command told asked same = subst (IsToldBy command) (sym same) asked
told_as (Err e) command told asked same = tt
