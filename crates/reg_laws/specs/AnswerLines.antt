-- Lines that say how a command is answered, the first of them that applies.
use Rattle.std.specs.Prelude.{◌≡◌, ◌⊎◌, false, Option, Some, None}
use Rattle.reg_core.specs.Laws.{is_refused}
use Rattle.reg_core.specs.Step.{Stepped}
use Rattle.reg_core.specs.World.{World}
use Rattle.reg_core.specs.declared.refusal.Refusal.{Refusal}
use Rattle.reg_core.specs.declared.reply.Reply.TheVariants.{Refused}

-- one line, which applies where something is so
pub data AnswerLine : Type 1 where
  -- then the command is refused
  refuses : Refusal → Type 0 → AnswerLine
  -- then all is as it asks already
  is_there : Type 0 → AnswerLine

-- lines in turn, and what is answered where none of them applies
infixr 5 ◌or_else◌
pub data Lines : Type 1 where
  ◌or_else◌ : AnswerLine → Lines → Lines
  -- the command is refused
  refused : Refusal → Lines
  -- the command is accepted
  accepted : Lines
  -- the command is accepted, and changes nothing
  unchanged : Lines

-- where there is no such row the command is refused, else it goes by the lines of the row
abbrev pub of_row : {X : Type 0} → Refusal → Option X → (X → Lines) → Lines
of_row refusal None lines = refused refusal
of_row refusal (Some row) lines = lines row

-- a step from a world goes by the first of the lines that applies
abbrev pub GoesBy : Lines → World → Stepped → Type 0
GoesBy ((refuses refusal So) or_else more) w after =
    (So × (after.reply ≡ Refused refusal)) ⊎ ((¬ So) × GoesBy more w after)
GoesBy ((is_there So) or_else more) w after =
    (So × (is_refused after.reply ≡ false) × (after.world ≡ w)) ⊎ ((¬ So) × GoesBy more w after)
GoesBy (refused refusal) w after = after.reply ≡ Refused refusal
GoesBy accepted w after = is_refused after.reply ≡ false
GoesBy unchanged w after = (is_refused after.reply ≡ false) × (after.world ≡ w)
