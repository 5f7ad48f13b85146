-- How the lines of a script are answered over an office.
use Rattle.std.specs.Prelude.{◌≡◌, ◌⊎◌, ◌==◌, Bool, ℕ, List, [], ◌∷◌, ◌++◌, map, filter, filter_map, not, Option, Some, None, Result, Ok, Err, if◌then◌else◌}
use Rattle.std.specs.Fmt.{decimal}
use Rattle.std.specs.List.{zip}
use Rattle.std.specs.Str.{bytes_eq}
use Rattle.reg_core.specs.World.{World}
use Rattle.reg_print.specs.Answer.{status_of, body_text}
use Rattle.reg_print.specs.declared.answer.Answer.{Answer}
use Rattle.reg_keeper.specs.declared.keeper.Fault.{Fault}
use Rattle.reg_wire.specs.Exchange.{Call, GivesAnswer, answer_to, world_then, answers_to, world_after_calls}
use Rattle.reg_wire.specs.Script.Line.{line_of}
use Rattle.reg_wire.specs.Script.Lines.{refusal, storage}

-- ---- One line

-- a line feed of a body is written as a TAB
abbrev pub tab_of : ℕ → ℕ
tab_of b = (if b == 10 then 9 else b)

-- an answer as a line: its status and its body
abbrev pub answer_line : Answer → List ℕ
answer_line a = decimal (status_of a) ++ 32 ∷ map tab_of (body_text a)

-- the answer to the call, and the world then; or 503 and the world unchanged
abbrev pub Serves : World → Call → List ℕ → World → Type 0
Serves before call text after =
    ((text ≡ answer_line (answer_to before call)) × (after ≡ world_then before call))
    ⊎ ((text ≡ storage) × (after ≡ before))

-- the line of what the office gives: the answer, or 503 at a fault
abbrev pub given_line : Result Answer Fault → List ℕ
given_line (Ok a) = answer_line a
given_line (Err fault) = storage

-- over the states of a keeper: the line of what the office gives to the call
pub record ServesOver {S : Type 0} (world : S → World) (Holds Sound : S → Type 0) (fails : Bool)
    (before : S) (call : Call) (text : List ℕ) (after : S) : Type 0 where
  pub result : Result Answer Fault
  pub told : text ≡ given_line result
  pub gives : GivesAnswer world Holds Sound fails before call result after

-- ---- Lines in turn

-- the calls that lines are
abbrev pub calls_of : List (List ℕ) → List Call
calls_of lines = filter_map line_of lines

-- the first line's answer is that to its call, or the refusal of bytes that are no line
abbrev pub next_line : Option Call → List Answer → (List Answer → List (List ℕ)) → List (List ℕ)
next_line None answers more = refusal ∷ more answers
next_line (Some call) [] more = []
next_line (Some call) (a ∷ answers) more = answer_line a ∷ more answers

-- the answers to lines, where these are the answers to the calls among them
abbrev pub lines_with : List (List ℕ) → List Answer → List (List ℕ)
lines_with [] answers = []
lines_with (line ∷ lines) answers = next_line (line_of line) answers (lines_with lines)

-- lines are answered as their calls are
pub record AnswerCalls (first last : World) (lines answers : List (List ℕ)) : Type 0 where
  pub answered : answers ≡ lines_with lines (answers_to first (calls_of lines))
  pub world : last ≡ world_after_calls first (calls_of lines)

-- ---- Faults

-- the lines with their answers, without those at which the store or memory failed
abbrev pub without_faults : List (List ℕ) → List (List ℕ) → List (List ℕ × List ℕ)
without_faults lines answers = filter (λ p. not (bytes_eq p.1 storage)) (zip lines answers)

abbrev pub faultless_lines : List (List ℕ) → List (List ℕ) → List (List ℕ)
faultless_lines lines answers = map (λ p. p.0) (without_faults lines answers)

abbrev pub faultless_answers : List (List ℕ) → List (List ℕ) → List (List ℕ)
faultless_answers lines answers = map (λ p. p.1) (without_faults lines answers)

-- the calls that were answered other than by 503
abbrev pub faultless_calls : List (List ℕ) → List (List ℕ) → List Call
faultless_calls lines answers = calls_of (faultless_lines lines answers)
