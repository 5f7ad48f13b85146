-- A script is answered as its calls are.
use Rattle.std.proofs.Common.{◌≡◌, ℕ, List, [], ◌∷◌, map, true, false, Option, None, Some, Ok, Err, refl, sym, ap, ◌∙◌, subst, inl, inr}
use Rattle.std.specs.Prelude.{MatchOption}
use Rattle.std.specs.List.{cons_option}
use Rattle.std.specs.Str.{bytes_eq}
use Rattle.reg_core.specs.World.{World}
use Rattle.reg_core.specs.declared.command.Command.{Command}
use Rattle.reg_json.specs.Members.{Reading}
use Rattle.reg_wire.specs.Exchange.{Call, spelled, answer_for, answer_to, world_then, answers_to, world_after_calls}
use Rattle.reg_wire.specs.Laws.{CallsRunAsTheModel}
use Rattle.reg_wire.specs.Script.Answers.{Serves, answer_line, calls_of, next_line, lines_with, AnswerCalls, without_faults}
use Rattle.reg_wire.specs.Script.Laws.{RunsAsTheModel}
use Rattle.reg_wire.specs.Script.Line.{line_of}
use Rattle.reg_wire.specs.Script.Lines.{refusal, storage, Ran}
use Rattle.reg_wire.proofs.AnswerLines.{refusal_is_another, reply_is_another, wire_is_another}

abbrev Pairs : Type 0
Pairs = List (List ℕ × List ℕ)

-- pairs of lines and answers are answered as their calls are
abbrev OfCalls : World → World → Pairs → Type 0
OfCalls first last pairs = AnswerCalls first last (map (λ p. p.0) pairs) (map (λ p. p.1) pairs)

-- no answer to a call is that of a fault
answer_is_another : (w : World) (call : Call) (reading : Reading Command)
    → bytes_eq (answer_line (answer_for w call reading)) storage ≡ false
answer_is_another w call (Ok command) = reply_is_another _
answer_is_another w call (Err why) = wire_is_another why

-- ---- Which lines are left

kept : (line text : List ℕ) (lines answers : List (List ℕ)) → bytes_eq text storage ≡ false
    → without_faults (line ∷ lines) (text ∷ answers) ≡ (line, text) ∷ without_faults lines answers
kept line text lines answers h = rw h refl

dropped : (line text : List ℕ) (lines answers : List (List ℕ)) → bytes_eq text storage ≡ true
    → without_faults (line ∷ lines) (text ∷ answers) ≡ without_faults lines answers
dropped line text lines answers h = rw h refl

-- ---- One line more

module _ (line text : List ℕ) (first now last : World) (pairs : Pairs)
    (rest : OfCalls now last pairs) where
  abbrev texts : List (List ℕ)
  texts = map (λ (p : List ℕ × List ℕ). p.1) pairs

  abbrev others : List (List ℕ)
  others = map (λ (p : List ℕ × List ℕ). p.0) pairs

  -- by what the line asks
  by_line : (o : Option Call) → line_of line ≡ o
      → text ∷ texts
      ≡ next_line o (answers_to first (cons_option o (calls_of others))) (lines_with others)
      → last ≡ world_after_calls first (cons_option o (calls_of others))
      → OfCalls first last ((line, text) ∷ pairs)
  by_line o is answered world = record { answered = rw is answered; world = rw is world }

  -- a line that is none
  no_line : line_of line ≡ None → text ≡ refusal → now ≡ first
      → OfCalls first last ((line, text) ∷ pairs)
  no_line none is same =
      let rest_first : OfCalls first last pairs =
      subst (λ (w : World). OfCalls w last pairs) same rest in
      by_line None none
      (ap (λ t. t ∷ texts) is ∙ ap (λ ts. refusal ∷ ts) rest_first.answered) rest_first.world

  -- a line that is a call
  call_line : (call : Call) → line_of line ≡ Some call → text ≡ answer_line (answer_to first call)
      → now ≡ world_then first call → OfCalls first last ((line, text) ∷ pairs)
  call_line call some is moved =
      let rest_then : OfCalls (world_then first call) last pairs =
      subst (λ (w : World). OfCalls w last pairs) moved rest in
      by_line (Some call) some
      (ap (λ t. t ∷ texts) is
      ∙ ap (λ ts. answer_line (answer_to first call) ∷ ts) rest_then.answered)
      rest_then.world

module _ (line text : List ℕ) (lines answers : List (List ℕ)) (first now last : World)
    (rest : OfCalls now last (without_faults lines answers)) where
  abbrev Goal : Type 0
  Goal = OfCalls first last (without_faults (line ∷ lines) (text ∷ answers))

  abbrev keeps : bytes_eq text storage ≡ false
      → OfCalls first last ((line, text) ∷ without_faults lines answers) → Goal
  keeps other h = subst (OfCalls first last) (sym (kept line text lines answers other)) h

  was_answered : (o : Option Call) → line_of line ≡ o
      → MatchOption o ((text ≡ refusal) × (now ≡ first)) (λ call. Serves first call text now) → Goal
  was_answered None e h =
      keeps (ap (λ t. bytes_eq t storage) h.0 ∙ refusal_is_another)
      (no_line line text first now last (without_faults lines answers) rest e h.0 h.1)
  was_answered (Some call) e (inl h) =
      keeps (ap (λ t. bytes_eq t storage) h.0 ∙ answer_is_another first call (spelled call))
      (call_line line text first now last (without_faults lines answers) rest call e h.0 h.1)
  was_answered (Some call) e (inr h) =
      subst (OfCalls first last)
      (sym (dropped line text lines answers (ap (λ t. bytes_eq t storage) h.0)))
      (subst (λ (w : World). OfCalls w last (without_faults lines answers)) h.1 rest)

pub script_run : (lines answers : List (List ℕ)) (first last : World)
    → Ran Serves first lines answers last → OfCalls first last (without_faults lines answers)
script_run [] [] first last h = record { answered = refl; world = h }
script_run [] (text ∷ answers) first last h = absurd h
script_run (line ∷ lines) [] first last h = absurd h
script_run (line ∷ lines) (text ∷ answers) first last h =
    was_answered line text lines answers first h.0 last (script_run lines answers h.0 last h.2)
    (line_of line) refl h.1

pub model_run : CallsRunAsTheModel → RunsAsTheModel
model_run of_model lines answers first last ran =
    let calls = script_run lines answers first last ran in
    let left = map (λ (p : List ℕ × List ℕ). p.0) (without_faults lines answers) in
    let model = of_model first (calls_of left) in
    record {
      calls = calls;
      answered = calls.answered ∙ ap (lines_with left) model.answers;
      world = calls.world ∙ model.world;
    }
