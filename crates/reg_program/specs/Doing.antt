-- What a job does with an office.
use Rattle.std.specs.Prelude.{Bool, false, Result, OnOk, IfErr}
use Rattle.reg_core.specs.World.{World}
use Rattle.reg_keeper.specs.Keeper.{GoesOn}
use Rattle.reg_program.specs.Undone.{MayUndo}
use Rattle.reg_program.specs.declared.faults.Undone.{Undone}

-- A job over the states of a keeper. Under the premise after it: where it is done, this is so of the
-- worlds before and after it; where it is not, that is, by why. And what becomes of the premise: it
-- goes on, unless the store failed.
pub record Does {S T : Type 0} (world : S → World) (Holds Sound : S → Type 0) (fails : Bool)
    (before after : S) (result : Result T Undone) (Done : World → World → Type 0)
    (Fails : World → World → Undone → Type 0) : Type 0 where
  pub done : Holds after → OnOk result (Done (world before) (world after))
  pub undone : Holds after → IfErr result (Fails (world before) (world after))
  pub premise : GoesOn Holds Sound before after (IfErr result (MayUndo false))
  pub fault : IfErr result (MayUndo fails)
