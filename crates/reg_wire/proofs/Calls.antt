-- Calls are answered as the model's run of their events, and what isolation and striking say of
-- them.
use Rattle.std.proofs.Common.{◌≡◌, List, [], ◌∷◌, Ok, Err, refl, sym, ap, ◌∙◌}
use Rattle.std.specs.List.{cons_option}
use Rattle.std.specs.Result.{result_ok}
use Rattle.reg_core.specs.Laws.{TwoWorlds, AreAlike}
use Rattle.reg_core.specs.Run.{run, world_after}
use Rattle.reg_core.specs.Striking.{UnseenLeaveNoTrace, StagesAreOfRun}
use Rattle.reg_core.specs.Unseen.{struck}
use Rattle.reg_core.specs.View.{view_of}
use Rattle.reg_core.specs.World.{World}
use Rattle.reg_core.specs.declared.command.Command.{Command}
use Rattle.reg_office.specs.Caller.{token_digest, caller_of}
use Rattle.reg_json.specs.Members.{Reading}
use Rattle.reg_print.specs.Answer.{body_text, status_of}
use Rattle.reg_print.specs.declared.answer.Answer.{Answer}
use Rattle.reg_print.specs.declared.answer.Answer.TheVariants as answer
use Rattle.reg_wire.specs.Exchange.{Call, spelled, answer_for, world_for, answers_to, world_after_calls, event_for, events_of, next_answer, answers_with}
use Rattle.reg_wire.specs.Laws.{AreOfModel, LookAlike, CallsAreAnsweredAlike, AreOfStages, UnseenCallsLeaveNoTrace}

-- ---- The model

-- the answers to a call that is read so and to those after it, and the world after them
abbrev OfModel : World → Call → Reading Command → List Call → Type 0
OfModel first call reading calls =
    let found = cons_option (result_ok (event_for call reading)) (events_of calls) in
    (answer_for first call reading ∷ answers_to (world_for first call reading) calls
    ≡ next_answer (event_for call reading) (run token_digest first found) (answers_with calls))
    × (world_after_calls (world_for first call reading) calls
    ≡ world_after token_digest first found)

call_of_model : (first : World) (call : Call) (reading : Reading Command) (calls : List Call)
    → AreOfModel (world_for first call reading) calls → OfModel first call reading calls
call_of_model first call (Ok command) calls h =
    (ap (λ (more : List Answer). answer_for first call (Ok command) ∷ more) h.answers, h.world)
call_of_model first call (Err why) calls h =
    (ap (λ (more : List Answer). answer.Wire why ∷ more) h.answers, h.world)

pub calls_of_model : (first : World) (calls : List Call) → AreOfModel first calls
calls_of_model first [] = record { answers = refl; world = refl }
calls_of_model first (call ∷ calls) =
    let h = call_of_model first call (spelled call) calls
    (calls_of_model (world_for first call (spelled call)) calls) in
    record { answers = h.0; world = h.1 }

-- ---- Isolation

module _ (isolation : TwoWorlds token_digest) (w v : World) (call : Call)
    (look : LookAlike w v (caller_of call.token)) where
  abbrev Alike : Reading Command → Type 0
  Alike reading =
      (answer_for w call reading ≡ answer_for v call reading)
      × (view_of (world_for w call reading) (caller_of call.token)
      ≡ view_of (world_for v call reading) (caller_of call.token))

  read_alike : (reading : Reading Command) → Alike reading
  read_alike (Ok command) =
      let same : AreAlike token_digest w v (caller_of call.token) call.moment command =
      isolation w v (caller_of call.token) call.moment command look.kept look.other_kept
      look.no_clerk look.views in
      (ap (λ reply. answer.Reply reply) same.replies, same.views)
  read_alike (Err why) = (refl, look.views)

pub calls_alike : TwoWorlds token_digest → CallsAreAnsweredAlike
calls_alike isolation w v call look =
    let same = read_alike isolation w v call look (spelled call) in
    record {
      answers = same.0;
      status = ap status_of same.0;
      bytes = ap body_text same.0;
      views =
          same.1;
    }

-- ---- Striking

of_stages : StagesAreOfRun token_digest → (first : World) (calls : List Call)
    → AreOfStages first calls
of_stages staged first calls =
    (calls_of_model first calls).answers
    ∙ ap (answers_with calls) (sym (staged first (events_of calls)))

pub no_trace_in_calls : StagesAreOfRun token_digest → UnseenLeaveNoTrace token_digest
    → UnseenCallsLeaveNoTrace
no_trace_in_calls staged striking account first calls left is_struck =
    let alike = striking account first (events_of calls) in
    let ends : world_after_calls first calls ≡ world_after token_digest first (events_of calls) =
    (calls_of_model first calls).world in
    let left_ends : world_after_calls first left
    ≡ world_after token_digest first (struck token_digest account first (events_of calls)) =
    (calls_of_model first left).world ∙ ap (world_after token_digest first) is_struck in
    record {
      answered = of_stages staged first calls;
      left_answered = of_stages staged first left;
      each_event = rw is_struck alike.each_event;
      shows = rw ends (rw left_ends alike.end);
    }
