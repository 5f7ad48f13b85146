-- What is answered to calls, and the world then, whatever carries them.
use Rattle.std.specs.Prelude.{◌≡◌, ◌≢◌, ℕ, List, [], ◌∷◌, filter_map, Bool, false, Option, None, Some, Result, Ok, Err, IfOk}
use Rattle.std.specs.List.{AllByRecursion, AllZip}
use Rattle.std.specs.Option.{option_copied}
use Rattle.std.specs.Result.{result_ok}
use Rattle.reg_core.specs.Run.{Event}
use Rattle.reg_core.specs.World.{World}
use Rattle.reg_core.specs.declared.command.Command.{Command}
use Rattle.reg_core.specs.declared.reply.Reply.{Reply}
use Rattle.reg_keeper.specs.Keeper.{GoesOn, Makes, MayFault}
use Rattle.reg_keeper.specs.declared.keeper.Fault.{Fault}
use Rattle.reg_office.specs.Caller.{caller_of, step_by}
use Rattle.reg_json.specs.Members.{Reading}
use Rattle.reg_parse.specs.Command.{asked}
use Rattle.reg_print.specs.declared.answer.Answer.{Answer}
use Rattle.reg_print.specs.declared.answer.Answer.TheVariants as answer
use Rattle.reg_wire.specs.declared.exchange.Call.{Call as BorrowedCall}

-- what is asked at a moment, by whoever has a token
pub record Call : Type 0 where
  pub moment : ℕ
  pub token : Option (List ℕ)
  pub method : List ℕ
  pub path : List ℕ
  pub body : List ℕ

-- a call without where its bytes lie in memory
abbrev pub call_view : BorrowedCall → Call
call_view call =
    record {
      moment = call.moment;
      token = option_copied call.token;
      method = call.method.now;
      path = call.path.now;
      body = call.body.now;
    }

-- ---- One call

-- the command that a call spells, or the first refusal
abbrev pub spelled : Call → Reading Command
spelled call = asked call.method call.path call.body

abbrev pub answer_for : World → Call → Reading Command → Answer
answer_for w call (Ok command) = answer.Reply (step_by w call.token call.moment command).reply
answer_for w call (Err refusal) = answer.Wire refusal

abbrev pub world_for : World → Call → Reading Command → World
world_for w call (Ok command) = (step_by w call.token call.moment command).world
world_for w call (Err refusal) = w

-- what is answered to a call: the reply of the step, or the refusal of its bytes
abbrev pub answer_to : World → Call → Answer
answer_to w call = answer_for w call (spelled call)

-- the world after a call
abbrev pub world_then : World → Call → World
world_then w call = world_for w call (spelled call)

-- an answer that is no fault of the store or of memory
abbrev pub IsNotStorage : Answer → Type 0
IsNotStorage (answer.Reply reply) = Unit {0}
IsNotStorage (answer.Wire refusal) = Unit {0}
IsNotStorage answer.Storage = ⊥

-- ---- Over the states of a keeper

-- what the office gives to a call: under the premise right after it the answer of the model, with
-- the content then; or a fault, with the content as it was; and what becomes of the premise
pub record GivesAnswer {S : Type 0} (world : S → World) (Holds Sound : S → Type 0) (fails : Bool)
    (before : S) (call : Call) (result : Result Answer Fault) (after : S) : Type 0 where
  pub answers : Holds after → IfOk result (λ a. a ≡ answer_to (world before) call)
  pub makes : Makes world Holds Sound fails before after result (λ w. world_then w call)
  pub is_answered : IfOk result IsNotStorage

-- the fault at which `storage` was told, where it was; the store's only if it can fail
abbrev pub FaultOf : {A : Type 0} → A → Bool → A → Option Fault → Type 0
FaultOf storage fails told None = told ≢ storage
FaultOf storage fails told (Some fault) = (told ≡ storage) × MayFault fails fault

-- the store did not fail
abbrev pub IsNotOfStore : Option Fault → Type 0
IsNotOfStore None = Unit {0}
IsNotOfStore (Some fault) = MayFault false fault

-- The faults at which `storage` was told in turn, and what becomes of the premise: it goes on where
-- none of them is the store's. Want of memory ends nothing.
pub record PremiseGoesOn {S A : Type 0} (Holds Sound : S → Type 0) (storage : A) (fails : Bool)
    (first last : S) (told : List A) : Type 0 where
  pub faults : List (Option Fault)
  pub each : AllZip (FaultOf storage fails) told faults
  pub goes_on : GoesOn Holds Sound first last (AllByRecursion IsNotOfStore faults)

-- ---- Calls in turn

-- the same of calls in turn
abbrev pub answers_to : World → List Call → List Answer
answers_to w [] = []
answers_to w (call ∷ calls) = answer_to w call ∷ answers_to (world_then w call) calls

abbrev pub world_after_calls : World → List Call → World
world_after_calls w [] = w
world_after_calls w (call ∷ calls) = world_after_calls (world_then w call) calls

-- ---- The events among calls

-- the event that a call spells, or its refusal
abbrev pub event_for : Call → Reading Command → Reading Event
event_for call (Ok command) = Ok (record {
  caller = caller_of call.token;
  moment = call.moment;
  command = command;
})
event_for call (Err refusal) = Err refusal

-- the event that a call is, or the first refusal of its bytes
abbrev pub event_of : Call → Reading Event
event_of call = event_for call (spelled call)

abbrev pub events_of : List Call → List Event
events_of calls = filter_map (λ call. result_ok (event_of call)) calls

-- the first call's answer is its refusal or the next reply
abbrev pub next_answer : Reading Event → List Reply → (List Reply → List Answer) → List Answer
next_answer (Err refusal) replies more = answer.Wire refusal ∷ more replies
next_answer (Ok event) [] more = []
next_answer (Ok event) (reply ∷ replies) more = answer.Reply reply ∷ more replies

-- the answers to calls, where these are the replies to the events among them
abbrev pub answers_with : List Call → List Reply → List Answer
answers_with [] replies = []
answers_with (call ∷ calls) replies = next_answer (event_of call) replies (answers_with calls)
