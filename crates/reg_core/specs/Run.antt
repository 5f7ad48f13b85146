-- A whole list of events, answered in turn.
use Rattle.std.specs.Prelude.{ℕ, List, [], ◌∷◌, Option, Bool}
use Rattle.std.specs.List.{list_all}
use Rattle.reg_core.specs.Command.{has_command_form}
use Rattle.reg_core.specs.Step.{Stepped, step}
use Rattle.reg_core.specs.World.{World}
use Rattle.reg_core.specs.declared.command.Command.{Command}
use Rattle.reg_core.specs.declared.reply.Reply.{Reply}

-- a command, as a caller gives it at a moment
pub record Event : Type 0 where
  pub caller : Option (List ℕ)
  pub moment : ℕ
  pub command : Command

-- the texts and numbers of all commands have their forms
abbrev pub have_forms : List Event → Bool
have_forms events = list_all (λ (e : Event). has_command_form e.command) events

module _ (digest_of : List ℕ → List ℕ) where
  -- the step of an event
  abbrev pub step_of : World → Event → Stepped
  step_of w e = step digest_of w e.caller e.moment e.command

  -- the replies, in order
  abbrev pub run : World → List Event → List Reply
  run w [] = []
  run w (e ∷ events) = (step_of w e).reply ∷ run (step_of w e).world events

  abbrev pub world_after : World → List Event → World
  world_after w [] = w
  world_after w (e ∷ events) = world_after (step_of w e).world events
