-- The laws of scripts.
use Rattle.std.specs.Prelude.{◌≡◌, ◌≢◌, ◌<◌, ◌≤◌, ◌^◌, List, [], ◌∷◌, ◌++◌, ℕ, Bool, false, cond, length, map, filter, Option, Some, None, MatchOption, option_and_then, unwrap_or}
use Rattle.std.specs.Fmt.{decimal}
use Rattle.std.specs.List.{AllByRecursion, AllZip}
use Rattle.std.specs.Result.{result_ok, result_err}
use Rattle.reg_core.specs.Run.{Event, run, world_after}
use Rattle.reg_core.specs.Striking.{ShowSame, ListsNoneUnseen, AreAlikeTo, reply_lists_others, reply_without}
use Rattle.reg_core.specs.Unseen.{Stage, stage, stays_in, is_unseen, struck}
use Rattle.reg_core.specs.View.{cap_at, view_of}
use Rattle.reg_core.specs.World.{World, RequestName}
use Rattle.reg_core.specs.declared.reply.Reply.{Reply}
use Rattle.reg_core.specs.declared.wire_refusal.WireRefusal.{WireRefusal}
use Rattle.reg_core.specs.declared.wire_refusal.WireRefusal.TheVariants as wire
use Rattle.reg_office.specs.Caller.{token_digest, caller_of}
use Rattle.reg_print.specs.declared.answer.Answer.{Answer}
use Rattle.reg_print.specs.declared.answer.Answer.TheVariants as answer
use Rattle.reg_wire.specs.Exchange.{Call, PremiseGoesOn, event_of, events_of, answers_with}
use Rattle.reg_wire.specs.Laws.{LookAlike}
use Rattle.reg_wire.specs.Script.Answers.{Serves, ServesOver, answer_line, lines_with, calls_of, AnswerCalls, without_faults, faultless_lines, faultless_answers, faultless_calls}
use Rattle.reg_wire.specs.Script.Line.{line_of, most_bytes, token_of, line_feed_of}
use Rattle.reg_wire.specs.Script.Lines.{Answered, Ran, AreLines, IsOneLine, refusal, storage}

-- ---- Lines

-- a field has bytes, and no space among them
abbrev pub IsField : List ℕ → Type 0
IsField field = (0 < length field) × AllByRecursion (λ b. b ≢ 32) field

-- the space before a body, and the body
abbrev pub after_path : Option (List ℕ) → List ℕ
after_path None = []
after_path (Some body) = 32 ∷ body

abbrev pub written : ℕ → List ℕ → List ℕ → List ℕ → Option (List ℕ) → List ℕ
written moment token method path body =
    decimal moment ++ 32 ∷ (token ++ 32 ∷ (method ++ 32 ∷ (path ++ after_path body)))

-- how the bytes of a line are written, and what it asks
pub record IsWritten (bytes : List ℕ) (asked : Call) : Type 0 where
  pub token : List ℕ
  pub body : Option (List ℕ)
  pub whole : bytes ≡ written asked.moment token asked.method asked.path body
  pub fits : length bytes ≤ most_bytes
  pub moment_fits : asked.moment < 2 ^ 64
  pub token_is : IsField token
  pub method_is : IsField asked.method
  pub path_is : IsField asked.path
  pub asks_by : asked.token ≡ token_of token
  pub asks_with : asked.body ≡ map line_feed_of (unwrap_or body [])

-- a line asks what it is written for, and other bytes ask nothing
pub record LinesAreRead : Type 0 where
  pub reads : (bytes : List ℕ) (asked : Call) → IsWritten bytes asked → line_of bytes ≡ Some asked
  pub only : (bytes : List ℕ) (asked : Call) → line_of bytes ≡ Some asked → IsWritten bytes asked

-- ---- Scripts

-- each script has its lines, and no others
pub record IsCutOneWay : Type 0 where
  pub some : (script : List ℕ) → (lines : List (List ℕ)) × AreLines script lines
  pub same : (script : List ℕ) (xs ys : List (List ℕ)) → AreLines script xs → AreLines script ys
      → xs ≡ ys

-- an answer is one line
abbrev pub AnswersAreLines : Type 0
AnswersAreLines = (a : Answer) → IsOneLine (answer_line a)

-- the two answers that are given without looking at the office
pub record AreAnswers : Type 0 where
  pub line : refusal ≡ answer_line (answer.Wire wire.Line)
  pub store : storage ≡ answer_line answer.Storage

-- without the lines that were answered 503, a script is answered as its calls are, and these as the
-- model's run of their events
pub record IsModelRun (first last : World) (lines answers : List (List ℕ)) : Type 0 where
  pub calls : AnswerCalls first last lines answers
  pub answered : answers ≡ lines_with lines
      (answers_with (calls_of lines) (run token_digest first (events_of (calls_of lines))))
  pub world : last ≡ world_after token_digest first (events_of (calls_of lines))

abbrev pub RunsAsTheModel : Type 0
RunsAsTheModel =
    (lines answers : List (List ℕ)) (first last : World) → Ran Serves first lines answers last
    → IsModelRun first last (faultless_lines lines answers) (faultless_answers lines answers)

-- ---- The premise, line by line

-- after the first lines of a run: they were answered in turn, as the contents are, under the
-- premise right after them, whatever comes later; and what becomes of the premise until then and
-- after: want of memory does not end it
pub record StandSoFar {S : Type 0} (world : S → World) (Holds Sound : S → Type 0) (fails : Bool)
    (first last : S) (lines answers later later_answers : List (List ℕ)) : Type 0 where
  pub now : S
  pub ran : Holds now → Ran Serves (world first) lines answers (world now)
  pub premise : PremiseGoesOn Holds Sound storage fails first now answers
  pub more : Ran (ServesOver world Holds Sound fails) now later later_answers last
  pub later_premise : PremiseGoesOn Holds Sound storage fails now last later_answers

abbrev pub LinesStandSoFar : {S : Type 0} → (S → World) → (S → Type 0) → (S → Type 0) → Bool
    → Type 0
LinesStandSoFar {S} world Holds Sound fails =
    (first last : S) (lines answers later later_answers : List (List ℕ))
    → length lines ≡ length answers
    → Ran (ServesOver world Holds Sound fails) first (lines ++ later) (answers ++ later_answers) last
    → StandSoFar world Holds Sound fails first last lines answers later later_answers

-- ---- Isolation, as of calls

-- whose line it is, by the digest of its token; nobody's where it has none, or is no line
abbrev pub sender : List ℕ → Option (List ℕ)
sender line = option_and_then (λ (call : Call). caller_of call.token) (line_of line)

-- a line is answered over a world, and not by 503
pub record IsServedLine (before : World) (line answer : List ℕ) (after : World) : Type 0 where
  pub answered : Answered Serves before line answer after
  pub no_fault : answer ≢ storage

-- two offices that show the sender of a line the same view answer it by the same bytes, and then
-- show it the same view again
abbrev pub LinesAreAnsweredAlike : Type 0
LinesAreAnsweredAlike =
    (w v now then : World) (line answer other : List ℕ)
    → LookAlike w v (sender line) → IsServedLine w line answer now → IsServedLine v line other then
    → (answer ≡ other) × (view_of now (sender line) ≡ view_of then (sender line))

-- ---- Striking, line by line

-- the event that a line is, where it gives a command
abbrev pub event_at : List ℕ → Option Event
event_at line = option_and_then (λ call. result_ok (event_of call)) (line_of line)

-- a line that gives a command: its bytes, the bytes that are printed as its answer, and the stage
-- of its event
pub record Turn : Type 0 where
  pub line : List ℕ
  pub answer : List ℕ
  pub stage : Stage

abbrev pub turn_then : List ℕ × List ℕ → World → Option Event → (World → List Turn) → List Turn
turn_then p w None more = more w
turn_then p w (Some e) more =
    let s = stage token_digest w e in
    record { line = p.0; answer = p.1; stage = s } ∷ more s.after

-- lines with their answers, in turn from a world, as far as they give commands
abbrev pub turns_of : List (List ℕ × List ℕ) → World → List Turn
turns_of [] w = []
turns_of (p ∷ pairs) w = turn_then p w (event_at p.0) (turns_of pairs)

-- the turns of a script; a line that was answered 503 has none
abbrev pub turns : World → List (List ℕ) → List (List ℕ) → List Turn
turns first lines answers = turns_of (without_faults lines answers) first

-- the turns at which the event is left
abbrev pub turns_left : List ℕ → (RequestName → Bool) → List Turn → List Turn
turns_left account unseen found = filter (λ (t : Turn). stays_in account unseen t.stage) found

-- the line that is printed of a reply
abbrev pub reply_line : Reply → List ℕ
reply_line reply = answer_line (answer.Reply reply)

-- the reply to the line lists requests of others than the account
abbrev pub turn_lists_others : List ℕ → Turn → Bool
turn_lists_others account t =
    reply_lists_others account (cap_at t.stage.before t.stage.event.caller) t.stage.reply

-- the line that is printed without the rows of unseen requests, where it lists requests
abbrev pub line_without : (RequestName → Bool) → Turn → List ℕ
line_without unseen t = reply_line (reply_without unseen t.stage.reply)

-- a line that is left, and the line with its event in the second script: what is printed is the
-- same bytes, unless it lists requests of others; without the rows of unseen requests it is the
-- same bytes in any case; and where none of these is there in the second run, what is printed there
-- is what is printed in the first run without these rows
pub record ArePrintedAlike (account : List ℕ) (unseen : RequestName → Bool) (s t : Turn) : Type 0
  where
    pub alike : AreAlikeTo account unseen s.stage t.stage
    pub printed : s.answer ≡ reply_line s.stage.reply
    pub left_printed : t.answer ≡ reply_line t.stage.reply
    pub bytes : turn_lists_others account s ≡ false → s.answer ≡ t.answer
    pub rows : line_without unseen s ≡ line_without unseen t
    pub without : ListsNoneUnseen unseen t.stage.before t.stage.reply
        → t.answer ≡ line_without unseen s

-- the first refusal of bytes that give no command
abbrev pub refusal_for : Option Call → Option WireRefusal
refusal_for None = Some wire.Line
refusal_for (Some call) = result_err (event_of call)

-- a line that gives no command is answered by the refusal of its bytes, whatever the office holds
abbrev pub RefusesBytes : List ℕ × List ℕ → Type 0
RefusesBytes p =
    MatchOption (refusal_for (line_of p.0)) (Unit {0}) (λ why. p.1 ≡ answer_line (answer.Wire why))

-- two scripts, of which the second lacks events about requests that an account does not see: line
-- by line of those that give the commands that are left, what is printed is alike; the other lines
-- are answered by their bytes alone; and at the end both show the account the same
pub record LeaveNoTrace (account : List ℕ) (first last end : World)
    (lines answers left left_answers : List (List ℕ)) : Type 0 where
  pub each_line :
      let unseen = is_unseen token_digest account first
      (events_of (faultless_calls lines answers)) in
      AllZip (ArePrintedAlike account unseen)
      (turns_left account unseen (turns first lines answers)) (turns first left left_answers)
  pub refused : AllByRecursion RefusesBytes (without_faults lines answers)
  pub left_refused : AllByRecursion RefusesBytes (without_faults left left_answers)
  pub shows : ShowSame account last end

-- a line that gives a command is left where the event stays; all other lines are left
abbrev pub left_then : (Stage → Bool) → List ℕ → World → Option Event
    → (World → List (List ℕ)) → List (List ℕ)
left_then stays line w None more = line ∷ more w
left_then stays line w (Some e) more =
    let s = stage token_digest w e in
    cond (stays s) (line ∷ more s.after) (more s.after)

abbrev pub left_of : (Stage → Bool) → List (List ℕ) → World → List (List ℕ)
left_of stays [] w = []
left_of stays (line ∷ lines) w = left_then stays line w (event_at line) (left_of stays lines)

-- the lines without those whose events are about requests that the account does not see
abbrev pub lines_left : List ℕ → World → List (List ℕ) → List (List ℕ)
lines_left account first lines =
    let unseen = is_unseen token_digest account first (events_of (calls_of lines)) in
    left_of (stays_in account unseen) lines first

-- the lines that are left give the events that are left; and whatever script gives these is
-- answered alike
pub record UnseenLinesLeaveNoTrace : Type 0 where
  pub left : (account : List ℕ) (first : World) (lines : List (List ℕ))
      → events_of (calls_of (lines_left account first lines))
      ≡ struck token_digest account first (events_of (calls_of lines))
  pub no_trace : (account : List ℕ) (first last end : World)
      (lines answers left left_answers : List (List ℕ))
      → Ran Serves first lines answers last → Ran Serves first left left_answers end
      → events_of (faultless_calls left left_answers)
      ≡ struck token_digest account first (events_of (faultless_calls lines answers))
      → LeaveNoTrace account first last end lines answers left left_answers
