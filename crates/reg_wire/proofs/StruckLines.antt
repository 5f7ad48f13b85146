-- Striking of lines, to the byte, is that of their calls.
use Rattle.std.proofs.Common.{◌≡◌, ℕ, Bool, true, false, cond, List, [], ◌∷◌, map, Option, None, Some, Ok, Err, refl, sym, ap, ◌∙◌}
use Rattle.std.specs.Prelude.{filter, MatchOption, option_and_then}
use Rattle.std.specs.List.{AllByRecursion, AllZip, cons_option}
use Rattle.std.specs.Result.{result_ok, result_err}
use Rattle.reg_core.specs.Run.{Event}
use Rattle.reg_core.specs.Striking.{AreAlikeTo}
use Rattle.reg_core.specs.Unseen.{Stage, stage, stages, stays_in, is_unseen, struck}
use Rattle.reg_core.specs.World.{World, RequestName}
use Rattle.reg_core.specs.declared.command.Command.{Command}
use Rattle.reg_office.specs.Caller.{token_digest, caller_of}
use Rattle.reg_json.specs.Members.{Reading}
use Rattle.reg_print.specs.declared.answer.Answer.TheVariants as answer
use Rattle.reg_wire.specs.Exchange.{Call, spelled, answer_for, world_for, answers_to, event_for, event_of, events_of}
use Rattle.reg_wire.specs.Laws.{UnseenCallsLeaveNoTrace}
use Rattle.reg_wire.specs.Script.Answers.{Serves, answer_line, calls_of, next_line, lines_with, without_faults, faultless_calls}
use Rattle.reg_wire.specs.Script.Laws.{event_at, Turn, turn_then, turns_of, turns_left, reply_line, ArePrintedAlike, refusal_for, RefusesBytes, LeaveNoTrace, left_then, left_of, UnseenLinesLeaveNoTrace}
use Rattle.reg_wire.specs.Script.Line.{line_of}
use Rattle.reg_wire.specs.Script.Lines.{Ran}
use Rattle.reg_wire.proofs.AnswerLines.{refusal_is}
use Rattle.reg_wire.proofs.ScriptRun.{script_run}

abbrev Pair : Type 0
Pair = List ℕ × List ℕ

abbrev calls_in : List Pair → List Call
calls_in pairs = calls_of (map (λ (p : Pair). p.0) pairs)

abbrev stages_at : List Turn → List Stage
stages_at found = map (λ (t : Turn). t.stage) found

-- ---- One run

-- the reply is printed
abbrev IsPrinted : Turn → Type 0
IsPrinted t = t.answer ≡ reply_line t.stage.reply

-- the turns are at the stages of the events, and print the replies
record AreTurns (w : World) (found : List Turn) (events : List Event) : Type 0 where
  stages : stages_at found ≡ stages token_digest w events
  printed : AllByRecursion IsPrinted found

-- the lines are answered as their calls are
abbrev AreAnswered : World → List Pair → Type 0
AreAnswered w pairs =
    map (λ (p : Pair). p.1) pairs
    ≡ lines_with (map (λ (p : Pair). p.0) pairs) (answers_to w (calls_in pairs))

abbrev HaveTurns : World → List Pair → Type 0
HaveTurns w pairs =
    AreTurns w (turns_of pairs w) (events_of (calls_in pairs)) × AllByRecursion RefusesBytes pairs

abbrev first_of : List (List ℕ) → List ℕ
first_of [] = []
first_of (x ∷ xs) = x

abbrev rest_of : List (List ℕ) → List (List ℕ)
rest_of [] = []
rest_of (x ∷ xs) = xs

module _ (p : Pair) (pairs : List Pair) (w : World)
    (more : (v : World) → AreAnswered v pairs → HaveTurns v pairs) where
  -- with a call that is read so
  abbrev OfReading : Call → Reading Command → Type 0
  OfReading call reading =
      let found = result_ok (event_for call reading) in
      AreTurns w (turn_then p w found (turns_of pairs))
      (cons_option found (events_of (calls_in pairs)))
      × MatchOption (result_err (event_for call reading)) (Unit {0})
      (λ why. p.1 ≡ answer_line (answer.Wire why))

  read_turn : (call : Call) (reading : Reading Command)
      → p.1 ≡ answer_line (answer_for w call reading)
      → AreTurns (world_for w call reading) (turns_of pairs (world_for w call reading))
      (events_of (calls_in pairs))
      → OfReading call reading
  read_turn call (Ok command) is rest =
      let e : Event = record {
        caller = caller_of call.token;
        moment = call.moment;
        command = command;
      } in
      let turned : AreTurns w (turn_then p w (Some e) (turns_of pairs))
      (e ∷ events_of (calls_in pairs)) = record {
        stages = ap (λ others. stage token_digest w e ∷ others) rest.stages;
        printed = (is, rest.printed);
      } in
      (turned, tt)
  read_turn call (Err why) is rest = (rest, is)

  -- with a line that is this call, or none
  abbrev Answered : Option Call → Type 0
  Answered o =
      p.1 ∷ map (λ (q : Pair). q.1) pairs
      ≡ next_line o (answers_to w (cons_option o (calls_in pairs)))
      (lines_with (map (λ (q : Pair). q.0) pairs))

  abbrev OfLine : Option Call → Type 0
  OfLine o =
      AreTurns w
      (turn_then p w (option_and_then (λ call. result_ok (event_of call)) o) (turns_of pairs))
      (events_of (cons_option o (calls_in pairs)))
      × (MatchOption (refusal_for o) (Unit {0}) (λ why. p.1 ≡ answer_line (answer.Wire why))
      × AllByRecursion RefusesBytes pairs)

  line_turn : (o : Option Call) → Answered o → OfLine o
  line_turn None h =
      let rest = more w (ap rest_of h) in
      (rest.0, (ap first_of h ∙ refusal_is, rest.1))
  line_turn (Some call) h =
      let rest = more (world_for w call (spelled call)) (ap rest_of h) in
      let turned = read_turn call (spelled call) (ap first_of h) rest.0 in
      (turned.0, (turned.1, rest.1))

have_turns : (pairs : List Pair) (w : World) → AreAnswered w pairs → HaveTurns w pairs
have_turns [] w h = (record { stages = refl; printed = tt }, tt)
have_turns (p ∷ pairs) w h = line_turn p pairs w (have_turns pairs) (line_of p.0) h

-- ---- Two runs

module _ (account : List ℕ) (unseen : RequestName → Bool) where
  stages_left : (found : List Turn)
      → stages_at (turns_left account unseen found)
      ≡ filter (stays_in account unseen) (stages_at found)
  stages_left [] = refl
  stages_left (t ∷ found) =
      let left = turns_left account unseen found in
      let some = filter (stays_in account unseen) (stages_at found) in
      elim (stays_in account unseen t.stage) as
      (λ b. stages_at (cond b (t ∷ left) left) ≡ cond b (t.stage ∷ some) some) [
        | true ↦ ap (λ more. t.stage ∷ more) (stages_left found)
        | false ↦ stages_left found
      ]

  printed_left : (found : List Turn) → AllByRecursion IsPrinted found
      → AllByRecursion IsPrinted (turns_left account unseen found)
  printed_left [] h = tt
  printed_left (t ∷ found) h =
      let left = turns_left account unseen found in
      elim (stays_in account unseen t.stage) as
      (λ b. AllByRecursion IsPrinted (cond b (t ∷ left) left)) [
        | true ↦ (h.0, printed_left found h.1)
        | false ↦ printed_left found h.1
      ]

  printed_alike : (s t : Turn) → AreAlikeTo account unseen s.stage t.stage → IsPrinted s
      → IsPrinted t → ArePrintedAlike account unseen s t
  printed_alike s t alike is is_left = record {
    alike = alike;
    printed = is;
    left_printed = is_left;
    bytes = λ plain. is ∙ ap reply_line (alike.replies plain) ∙ sym is_left;
    rows = ap reply_line alike.rows;
    without = λ none. is_left ∙ ap reply_line (alike.without none);
  }

  each_printed_alike : (some others : List Turn)
      → AllZip (AreAlikeTo account unseen) (stages_at some) (stages_at others)
      → AllByRecursion IsPrinted some → AllByRecursion IsPrinted others
      → AllZip (ArePrintedAlike account unseen) some others
  each_printed_alike [] [] h is is_left = tt
  each_printed_alike [] (t ∷ others) h is is_left = absurd h
  each_printed_alike (s ∷ some) [] h is is_left = absurd h
  each_printed_alike (s ∷ some) (t ∷ others) h is is_left =
      (printed_alike s t h.0 is.0 is_left.0, each_printed_alike some others h.1 is.1 is_left.1)

module _ (striking : UnseenCallsLeaveNoTrace) (account : List ℕ) (first last end : World)
    (lines answers left left_answers : List (List ℕ)) where
  no_trace : Ran Serves first lines answers last → Ran Serves first left left_answers end
      → events_of (faultless_calls left left_answers)
      ≡ struck token_digest account first (events_of (faultless_calls lines answers))
      → LeaveNoTrace account first last end lines answers left left_answers
  no_trace ran left_ran is_struck =
      let answered = script_run lines answers first last ran in
      let left_answered = script_run left left_answers first end left_ran in
      let calls =
      striking account first (faultless_calls lines answers) (faultless_calls left left_answers)
      is_struck in
      let unseen =
      is_unseen token_digest account first (events_of (faultless_calls lines answers)) in
      let found = have_turns (without_faults lines answers) first answered.answered in
      let left_found = have_turns (without_faults left left_answers) first left_answered.answered in
      let some = turns_of (without_faults lines answers) first in
      let others = turns_of (without_faults left left_answers) first in
      let kept = stages_left account unseen some
      ∙ ap (filter (stays_in account unseen)) found.0.stages in
      let alike : AllZip (AreAlikeTo account unseen)
      (stages_at (turns_left account unseen some)) (stages_at others) =
      rw kept (rw left_found.0.stages calls.each_event) in
      record {
        each_line = each_printed_alike account unseen (turns_left account unseen some) others alike
            (printed_left account unseen some found.0.printed) left_found.0.printed;
        refused = found.1;
        left_refused = left_found.1;
        shows = rw answered.world (rw left_answered.world calls.shows);
      }

-- ---- The lines that are left

abbrev events_in : List (List ℕ) → List Event
events_in lines = events_of (calls_of lines)

events_more : (line : List ℕ) (lines : List (List ℕ))
    → events_in (line ∷ lines) ≡ cons_option (event_at line) (events_in lines)
events_more line lines =
    elim (line_of line) as
    (λ o. events_of (cons_option o (calls_of lines))
    ≡ cons_option (option_and_then (λ call. result_ok (event_of call)) o) (events_in lines)) [
      | None ↦ refl
      | Some call ↦ refl
    ]

module _ (stays : Stage → Bool) where
  abbrev events_left : World → List Event → List Event
  events_left w events =
      map (λ (s : Stage). s.event) (filter stays (stages token_digest w events))

  module _ (line : List ℕ) (lines : List (List ℕ)) (w : World)
      (more : (v : World)
      → events_in (left_of stays lines v) ≡ events_left v (events_in lines)) where
    line_left : (o : Option Event) → event_at line ≡ o
        → events_in (left_then stays line w o (left_of stays lines))
        ≡ events_left w (cons_option o (events_in lines))
    line_left None is =
        events_more line (left_of stays lines w)
        ∙ ap (λ o. cons_option o (events_in (left_of stays lines w))) is ∙ more w
    line_left (Some e) is =
        let s = stage token_digest w e in
        let after = left_of stays lines s.after in
        let some = filter stays (stages token_digest s.after (events_in lines)) in
        elim (stays s) as
        (λ b. events_in (cond b (line ∷ after) after)
        ≡ map (λ (t : Stage). t.event) (cond b (s ∷ some) some)) [
          | true ↦ events_more line after ∙ ap (λ o. cons_option o (events_in after)) is
              ∙ ap (λ events. e ∷ events) (more s.after)
          | false ↦ more s.after
        ]

  are_left : (lines : List (List ℕ)) (w : World)
      → events_in (left_of stays lines w) ≡ events_left w (events_in lines)
  are_left [] w = refl
  are_left (line ∷ lines) w =
      line_left line lines w (are_left lines) (event_at line) refl
      ∙ ap (events_left w) (sym (events_more line lines))

pub no_trace_in_lines : UnseenCallsLeaveNoTrace → UnseenLinesLeaveNoTrace
no_trace_in_lines striking = record {
  left = λ account first lines.
      are_left (stays_in account (is_unseen token_digest account first (events_in lines))) lines
      first;
  no_trace = no_trace striking;
}
