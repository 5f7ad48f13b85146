-- What a command's functions promise over a keeper, by what the model answers.
use Rattle.std.specs.Prelude.{◌≡◌, Bool, false, Result, Ok, IfOk, IfErr, OnOk, OnErr}
use Rattle.reg_core.specs.Answer.{Answer, reply_of, change_of}
use Rattle.reg_core.specs.Journal.{recorded_if}
use Rattle.reg_core.specs.World.{World}
use Rattle.reg_core.specs.declared.journal.Stamp.{Stamp}
use Rattle.reg_core.specs.declared.told.Told.{Told}
use Rattle.reg_core.specs.declared.refusal.Refusal.{Refusal}
use Rattle.reg_core.specs.declared.reply.Reply.TheVariants.{Accepted}
use Rattle.reg_keeper.specs.Keeper.{GoesOn}
use Rattle.reg_registers.specs.Stops.{MayStop, Refuses}
use Rattle.reg_registers.specs.declared.stop.Stop.{Stop}

-- a function that only looks: it gives what the model does, or refuses as the model does
pub record LooksUp {S T : Type 0} (world : S → World) (Holds Sound : S → Type 0) (fails : Bool)
    (old new : S) (result : Result T Stop) (found : World → Result T Refusal) : Type 0 where
  pub value : Holds new → IfOk result (λ x. found (world old) ≡ Ok x)
  pub refused : Holds new → IfErr result (Refuses (found (world old)))
  pub same : Holds new → world new ≡ world old
  pub premise : GoesOn Holds Sound old new (IfErr result (MayStop false))
  pub fault : IfErr result (MayStop fails)

-- a command's function: it tells what the model answers and makes the change, with its acts, or
-- refuses as the model does
pub record Performs {S : Type 0} (world : S → World) (Holds Sound : S → Type 0) (fails : Bool)
    (stamp : Stamp) (old new : S) (result : Result Told Stop) (answer : World → Answer) : Type 0
  where
    pub told : Holds new → IfOk result (λ c. reply_of (answer (world old)) ≡ Accepted c)
    pub made : Holds new →
        OnOk result (world new ≡ recorded_if stamp (world old) (change_of (answer (world old))))
    pub refused : Holds new → IfErr result (Refuses (answer (world old)))
    pub kept : Holds new → OnErr result (world new ≡ world old)
    pub premise : GoesOn Holds Sound old new (IfErr result (MayStop false))
    pub fault : IfErr result (MayStop fails)
