-- The jobs that are one command: which command that is, and what is printed of its answer.
use Rattle.std.specs.Prelude.{◌≡◌, ◌⊎◌, ◌∷◌, ◌++◌, ⊤, ℕ, [], Bool, true, false, List, Option, Some, None}
use Rattle.std.specs.Prelude.{Result, Err, Ok, MatchResult, codes}
use Rattle.std.specs.Io.KnownBytes.{Appends}
use Rattle.std.specs.Option.{option_copied}
use Rattle.reg_core.specs.Laws.{is_refused}
use Rattle.reg_core.specs.Step.{Stepped}
use Rattle.reg_core.specs.World.{World}
use Rattle.reg_core.specs.declared.command.Command.{Command}
use Rattle.reg_core.specs.declared.wire_refusal.WireRefusal.{WireRefusal}
use Rattle.reg_office.specs.Caller.{step_by}
use Rattle.reg_json.specs.Members.{Reading}
use Rattle.reg_print.specs.Answer.{answer_body, body_text}
use Rattle.reg_print.specs.Body.{format_of}
use Rattle.reg_print.specs.declared.answer.Answer.{Answer}
use Rattle.reg_print.specs.declared.answer.Answer.TheVariants as answer
use Rattle.reg_print.specs.declared.answer.Format.{Format}
use Rattle.reg_print.specs.declared.answer.Format.TheVariants.{Json, Csv}
use Rattle.reg_program.specs.Doing.{Does}
use Rattle.reg_program.specs.Undone.{answer_line}
use Rattle.reg_program.specs.declared.asking.AnswerForm.{AnswerForm}
use Rattle.reg_program.specs.declared.asking.AnswerForm.TheVariants.{Body, Line}
use Rattle.reg_program.specs.declared.asking.Question.{Question}
use Rattle.reg_program.specs.declared.faults.JobFailure.TheVariants.{Memory}
use Rattle.reg_program.specs.declared.faults.Undone.{Undone}
use Rattle.reg_program.specs.declared.faults.Undone.TheVariants.{Fault, Explained, Refused}

-- ---- The command

-- where a registry is defined
abbrev pub definition_at : List ℕ → List ℕ → List ℕ
definition_at name max = codes "/desk/registries/" ++ (name ++ (codes "/" ++ max))

-- where a registry is listed or, without one, the blocks
abbrev pub listing_at : Option (List ℕ) → List ℕ
listing_at (Some name) = codes "/listings/registries/" ++ name
listing_at None = codes "/listings/blocks"

-- the bytes spell no command, and this line says why; or there was no memory
abbrev pub SpellsNoCommand : Reading Command → Undone → Type 0
SpellsNoCommand reading (Refused line) =
    (refusal : WireRefusal) × (reading ≡ Err refusal)
    × (line.items ≡ answer_line (answer.Wire refusal))
SpellsNoCommand reading (Fault failure) = failure ≡ Memory
SpellsNoCommand reading (Explained failure why) = ⊥

-- just the command that the bytes spell
abbrev pub Spells : Reading Command → Result Command Undone → Type 0
Spells reading result = MatchResult result (λ command. reading ≡ Ok command) (SpellsNoCommand reading)

-- ---- What is printed

-- a line feed after JSON
abbrev pub after_body : Format → List ℕ
after_body Json = 10 ∷ []
after_body Csv = []

abbrev pub in_form : AnswerForm → Answer → List ℕ
in_form Body a = body_text a
in_form Line a = answer_line a

-- what is printed of an answer
abbrev pub printed : AnswerForm → Answer → List ℕ
printed form a = in_form form a ++ after_body (format_of (answer_body a))

-- ---- One step of an office

-- the step of an office that a question asks for, at a moment
abbrev pub step_of : Question → ℕ → World → Stepped
step_of question moment world = step_by world (option_copied question.token) moment question.command

-- the step is accepted, the office is as after it, and what it answers is printed
pub record IsPrinted (form : AnswerForm) (had has : Option (List ℕ)) (step : Stepped) (new : World) :
    Type 0 where
  pub accepted : is_refused step.reply ≡ false
  pub stepped : new ≡ step.world
  pub wrote : Appends had has (printed form (answer.Reply step.reply))

-- a line says by what the step is refused, and nothing has changed; or there was a fault, and then
-- nothing has changed or all of the step was done
abbrev pub IsUnprinted : Stepped → World → World → Undone → Type 0
IsUnprinted step old new (Refused line) =
    (is_refused step.reply ≡ true) × (line.items ≡ answer_line (answer.Reply step.reply))
    × (new ≡ old)
IsUnprinted step old new (Fault failure) = (new ≡ old) ⊎ (new ≡ step.world)
IsUnprinted step old new (Explained failure why) = ⊥

-- an office is asked for one step, in this form
abbrev pub PrintsStep : {S : Type 0} → (S → World) → (S → Type 0) → (S → Type 0) → Bool → S → S
    → (World → Stepped) → AnswerForm → Option (List ℕ) → Option (List ℕ) → Result ⊤ Undone → Type 0
PrintsStep world Holds Sound fails before after step form had has result =
    Does world Holds Sound fails before after result
    (λ old new. IsPrinted form had has (step old) new) (λ old new. IsUnprinted (step old) old new)
