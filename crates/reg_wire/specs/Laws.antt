-- The laws of calls and their answers.
use Rattle.std.specs.Prelude.{◌≡◌, ℕ, List, map, true, Ok, Option}
use Rattle.std.specs.List.{AllZip}
use Rattle.serde_json.specs.Written.{compact_text}
use Rattle.reg_core.specs.Ask.{has_ask_form}
use Rattle.reg_core.specs.Laws.{IsNoClerk}
use Rattle.reg_core.specs.Run.{run, world_after}
use Rattle.reg_core.specs.Striking.{AreAlikeTo, ShowSame}
use Rattle.reg_core.specs.Unseen.{Stage, stages, is_unseen, kept_stages, struck}
use Rattle.reg_core.specs.View.{view_of}
use Rattle.reg_core.specs.WellKept.{WellKept}
use Rattle.reg_core.specs.World.{World}
use Rattle.reg_core.specs.declared.ask.Ask.{Ask}
use Rattle.reg_core.specs.declared.reply.Reply.{Reply}
use Rattle.reg_office.specs.Caller.{token_digest, caller_of}
use Rattle.reg_parse.specs.Bodies.Ask.{ask_of}
use Rattle.reg_json.specs.Members.{Reading, ◌>>=◌, object_of}
use Rattle.reg_print.specs.Answer.{body_text, status_of}
use Rattle.reg_print.specs.Trees.Ask.{ask_tree}
use Rattle.reg_wire.specs.Exchange.{Call, answer_to, world_then, answers_to, world_after_calls, events_of, answers_with}

-- ---- Asks

-- the text that is printed of an ask
abbrev pub ask_text : Ask → List ℕ
ask_text ask = compact_text (ask_tree ask)

-- the ask that a body holds
abbrev pub ask_in : List ℕ → Reading Ask
ask_in body = do
  json ← object_of body
  ask_of json

-- what is printed of an ask reads back as the same ask
abbrev pub AsksReadBack : Type 0
AsksReadBack = (ask : Ask) → has_ask_form ask ≡ true → ask_in (ask_text ask) ≡ Ok ask

-- ---- The model

-- calls are answered as in the model's run of the events among them, with the refusals of the other
-- calls between, and so is the last world
pub record AreOfModel (first : World) (calls : List Call) : Type 0 where
  pub answers : answers_to first calls
      ≡ answers_with calls (run token_digest first (events_of calls))
  pub world : world_after_calls first calls ≡ world_after token_digest first (events_of calls)

abbrev pub CallsRunAsTheModel : Type 0
CallsRunAsTheModel = (first : World) (calls : List Call) → AreOfModel first calls

-- ---- Isolation

-- both offices are well kept, and show the caller, who is no clerk, the same view
pub record LookAlike (w v : World) (caller : Option (List ℕ)) : Type 0 where
  pub kept : WellKept w
  pub other_kept : WellKept v
  pub no_clerk : IsNoClerk w caller
  pub views : view_of w caller ≡ view_of v caller

-- both offices give a call the same answer, with the same status and bytes, and then show its
-- caller the same view again
pub record AreAnsweredAlike (w v : World) (call : Call) : Type 0 where
  pub answers : answer_to w call ≡ answer_to v call
  pub status : status_of (answer_to w call) ≡ status_of (answer_to v call)
  pub bytes : body_text (answer_to w call) ≡ body_text (answer_to v call)
  pub views : view_of (world_then w call) (caller_of call.token)
      ≡ view_of (world_then v call) (caller_of call.token)

abbrev pub CallsAreAnsweredAlike : Type 0
CallsAreAnsweredAlike =
    (w v : World) (call : Call) → LookAlike w v (caller_of call.token) → AreAnsweredAlike w v call

-- ---- Striking

-- the replies to events
abbrev pub replies_at : List Stage → List Reply
replies_at found = map (λ (s : Stage). s.reply) found

-- the answers to calls are the replies at the stages of the events among them
abbrev pub AreOfStages : World → List Call → Type 0
AreOfStages first calls =
    answers_to first calls ≡ answers_with calls
    (replies_at (stages token_digest first (events_of calls)))

-- some calls, and others that have their events but for those about requests that an account does
-- not see: the answers to both are the replies at their stages; these are alike at each event that
-- is left; and at the end both show the account the same
pub record AreStruckAlike (account : List ℕ) (first : World) (calls left : List Call) : Type 0 where
  pub answered : AreOfStages first calls
  pub left_answered : AreOfStages first left
  pub each_event :
      AllZip (AreAlikeTo account (is_unseen token_digest account first (events_of calls)))
      (kept_stages token_digest account first (events_of calls))
      (stages token_digest first (events_of left))
  pub shows : ShowSame account (world_after_calls first calls) (world_after_calls first left)

abbrev pub UnseenCallsLeaveNoTrace : Type 0
UnseenCallsLeaveNoTrace =
    (account : List ℕ) (first : World) (calls left : List Call)
    → events_of left ≡ struck token_digest account first (events_of calls)
    → AreStruckAlike account first calls left
