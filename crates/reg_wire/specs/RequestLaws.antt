-- The laws of requests and answers over HTTP.
use Rattle.std.specs.Prelude.{◌≡◌, ◌≢◌, ℕ, List, [], ◌∷◌, ◌++◌, Bool, true, false, not, map, filter, filter_map, Option, None, Some, Result, Ok, Err}
use Rattle.std.specs.List.{AllZip}
use Rattle.reg_core.specs.Striking.{AreAlikeTo, ListsNoneUnseen, ShowSame, reply_lists_others, reply_without}
use Rattle.reg_core.specs.Unseen.{Stage, stages, is_unseen, kept_stages, struck}
use Rattle.reg_core.specs.Run.{run, world_after}
use Rattle.reg_core.specs.View.{cap_at, view_of}
use Rattle.reg_core.specs.World.{World, RequestName}
use Rattle.reg_office.specs.Caller.{token_digest}
use Rattle.reg_print.specs.declared.answer.Answer.{Answer}
use Rattle.reg_print.specs.declared.answer.Answer.TheVariants as answer
use Rattle.reg_wire.specs.Exchange.{Call, PremiseGoesOn, events_of, answers_with}
use Rattle.reg_wire.specs.Laws.{LookAlike, replies_at}
use Rattle.reg_head.specs.Request.{Request, BytesAsk}
use Rattle.reg_head.specs.declared.malformed.Malformed.{Malformed}
use Rattle.reg_wire.specs.Response.{status, response_text, reply_text}
use Rattle.reg_wire.specs.Serving.{Answers, AnswersOver, Exchange, Lead, Responds, asker, call_at, storage}
use Rattle.reg_wire.specs.declared.response.Response.{Response}
use Rattle.reg_wire.specs.declared.response.Response.TheVariants as response

-- ---- Isolation

-- bytes that came at a moment were answered over a world, and not by storage
pub record AreServed (before : World) (moment : ℕ) (bytes : List ℕ) (told : Response)
    (after : World) : Type 0 where
  pub asked : Result Request Malformed
  pub asks : BytesAsk bytes asked
  pub responds : Responds Answers before moment asked told after
  pub no_fault : told ≢ storage

-- both offices show whoever the bytes come from, who is no clerk, the same view
abbrev pub LookAlikeTo : World → World → List ℕ → Type 0
LookAlikeTo w v bytes =
    (asked : Result Request Malformed) → BytesAsk bytes asked → LookAlike w v (asker asked)

-- the answers are the same bytes, and then whoever asked is shown the same view
pub record AreToldAlike (bytes : List ℕ) (told other : Response) (now then : World) : Type 0 where
  pub same : response_text told ≡ response_text other
  pub status : status told ≡ status other
  pub views : (asked : Result Request Malformed) → BytesAsk bytes asked
      → view_of now (asker asked) ≡ view_of then (asker asked)

-- two offices that show whoever asks the same view answer the same bytes at the same moment by the
-- same bytes, and then show it the same view again
abbrev pub RequestsAreAnsweredAlike : Type 0
RequestsAreAnsweredAlike =
    (w v now then : World) (moment : ℕ) (bytes : List ℕ) (told other : Response)
    → LookAlikeTo w v bytes → AreServed w moment bytes told now
    → AreServed v moment bytes other then → AreToldAlike bytes told other now then

-- ---- Requests in turn

-- bytes are answered in turn over worlds
abbrev pub Exchanged : World → List Exchange → World → Type 0
Exchanged before xs after = Lead Answers before xs after

abbrev pub is_storage : Response → Bool
is_storage (response.Answer (answer.Reply told)) = false
is_storage (response.Answer (answer.Wire refusal)) = false
is_storage (response.Answer answer.Storage) = true
is_storage (response.Malformed why) = false

-- without those at which the store or memory failed
abbrev pub faultless : List Exchange → List Exchange
faultless xs = filter (λ (x : Exchange). not (is_storage x.told)) xs

abbrev pub call_in : ℕ → Result Request Malformed → Option Call
call_in moment (Ok request) = Some (call_at moment request)
call_in moment (Err why) = None

-- the calls that were asked
abbrev pub calls_of : List Exchange → List Call
calls_of xs = filter_map (λ (x : Exchange). call_in x.moment x.asked) xs

-- the first answer is what is wrong with the bytes, or the next answer to a call
abbrev pub next_told : Result Request Malformed → List Answer → (List Answer → List Response)
    → List Response
next_told (Err why) answers more = response.Malformed why ∷ more answers
next_told (Ok request) [] more = []
next_told (Ok request) (a ∷ answers) more = response.Answer a ∷ more answers

-- what is answered, where these are the answers to the calls
abbrev pub told_with : List Exchange → List Answer → List Response
told_with [] answers = []
told_with (x ∷ xs) answers = next_told x.asked answers (told_with xs)

abbrev pub told_of : List Exchange → List Response
told_of xs = map (λ (x : Exchange). x.told) xs

-- without those answered by storage, requests are answered as the model's run of their events
pub record ExchangesAreOfModel (first last : World) (xs : List Exchange) : Type 0 where
  pub told : told_of xs ≡ told_with xs
      (answers_with (calls_of xs) (run token_digest first (events_of (calls_of xs))))
  pub world : last ≡ world_after token_digest first (events_of (calls_of xs))

abbrev pub RequestsRunAsTheModel : Type 0
RequestsRunAsTheModel =
    (first last : World) (xs : List Exchange) → Exchanged first xs last
    → ExchangesAreOfModel first last (faultless xs)

-- ---- The premise, request by request

-- after the first of some requests in turn: they were answered over the contents, and so as the
-- model's run of their events, under the premise right after them, whatever comes later; and what
-- becomes of the premise until then and after: want of memory does not end it
pub record ExchangesStandSoFar {S : Type 0} (world : S → World) (Holds Sound : S → Type 0) (fails : Bool)
    (first last : S) (xs later : List Exchange) : Type 0 where
  pub now : S
  pub in_turn : Holds now → Exchanged (world first) xs (world now)
  pub model : Holds now → ExchangesAreOfModel (world first) (world now) (faultless xs)
  pub premise : PremiseGoesOn Holds Sound storage fails first now (told_of xs)
  pub more : Lead (AnswersOver world Holds Sound fails) now later last
  pub later_premise : PremiseGoesOn Holds Sound storage fails now last (told_of later)

abbrev pub RequestsStandSoFar : {S : Type 0} → (S → World) → (S → Type 0) → (S → Type 0) → Bool
    → Type 0
RequestsStandSoFar {S} world Holds Sound fails =
    (first last : S) (xs later : List Exchange)
    → Lead (AnswersOver world Holds Sound fails) first (xs ++ later) last
    → ExchangesStandSoFar world Holds Sound fails first last xs later

-- ---- Striking

-- an event in two runs, the second of which lacks events about unseen requests: what is written of
-- the replies is the same bytes, unless they list requests of others; without the rows of unseen
-- requests it is the same bytes in any case; and where none of these is there in the second run,
-- what is written there is what is written in the first run without these rows
pub record AreWrittenAlike (account : List ℕ) (unseen : RequestName → Bool) (s t : Stage) : Type 0
  where
    pub alike : AreAlikeTo account unseen s t
    pub bytes :
        reply_lists_others account (cap_at s.before s.event.caller) s.reply ≡ false
        → reply_text (answer.Reply s.reply) ≡ reply_text (answer.Reply t.reply)
    pub rows : reply_text (answer.Reply (reply_without unseen s.reply))
        ≡ reply_text (answer.Reply (reply_without unseen t.reply))
    pub without : ListsNoneUnseen unseen t.before t.reply
        → reply_text (answer.Reply t.reply)
        ≡ reply_text (answer.Reply (reply_without unseen s.reply))

-- what is answered are the replies at the stages of the events
abbrev pub ExchangesAreOfStages : World → List Exchange → Type 0
ExchangesAreOfStages first xs =
    told_of xs ≡ told_with xs
    (answers_with (calls_of xs)
    (replies_at (stages token_digest first (events_of (calls_of xs)))))

-- some requests, and others that have their events but for those about requests that an account
-- does not see: both are answered by the replies at their stages; these are written alike at each
-- event that is left; and at the end both show the account the same
pub record ExchangesLeaveNoTrace (account : List ℕ) (first last end : World) (xs left : List Exchange) :
    Type 0 where
  pub answered : ExchangesAreOfStages first xs
  pub left_answered : ExchangesAreOfStages first left
  pub each_event :
      AllZip
      (AreWrittenAlike account (is_unseen token_digest account first (events_of (calls_of xs))))
      (kept_stages token_digest account first (events_of (calls_of xs)))
      (stages token_digest first (events_of (calls_of left)))
  pub shows : ShowSame account last end

abbrev pub UnseenRequestsLeaveNoTrace : Type 0
UnseenRequestsLeaveNoTrace =
    (account : List ℕ) (first last end : World) (xs left : List Exchange)
    → Exchanged first xs last → Exchanged first left end
    → events_of (calls_of (faultless left))
    ≡ struck token_digest account first (events_of (calls_of (faultless xs)))
    → ExchangesLeaveNoTrace account first last end (faultless xs) (faultless left)
