-- Requests in turn are answered as their calls are.
use Rattle.std.proofs.Common.{◌≡◌, ℕ, Bool, true, false, List, [], ◌∷◌, Result, Ok, Err, refl, sym, ap, ◌∙◌, subst, inl, inr}
use Rattle.std.specs.List.{AllZip, cons_option}
use Rattle.reg_core.specs.Striking.{AreAlikeTo}
use Rattle.reg_core.specs.Unseen.{Stage, stages, is_unseen, kept_stages}
use Rattle.reg_core.specs.World.{World, RequestName}
use Rattle.reg_core.specs.declared.command.Command.{Command}
use Rattle.reg_office.specs.Caller.{token_digest}
use Rattle.reg_json.specs.Members.{Reading}
use Rattle.reg_print.specs.declared.answer.Answer.TheVariants as answer
use Rattle.reg_wire.specs.Exchange.{Call, spelled, answer_for, answer_to, world_then, answers_to, world_after_calls, events_of}
use Rattle.reg_wire.specs.Laws.{CallsRunAsTheModel, UnseenCallsLeaveNoTrace}
use Rattle.reg_head.specs.Request.{Request}
use Rattle.reg_head.specs.declared.malformed.Malformed.{Malformed}
use Rattle.reg_wire.specs.RequestLaws.{Exchanged, is_storage, faultless, call_in, calls_of, next_told, told_with, told_of, RequestsRunAsTheModel, AreWrittenAlike, UnseenRequestsLeaveNoTrace}
use Rattle.reg_wire.specs.Response.{reply_text}
use Rattle.reg_wire.specs.Serving.{Answers, Exchange, Responds, call_at}
use Rattle.reg_wire.specs.declared.response.Response.TheVariants as response

-- answered as the calls are
record OfCalls (first last : World) (xs : List Exchange) : Type 0 where
  told : told_of xs ≡ told_with xs (answers_to first (calls_of xs))
  world : last ≡ world_after_calls first (calls_of xs)

-- no answer to a call is that of a fault
answer_is_no_fault : (w : World) (call : Call) (reading : Reading Command)
    → is_storage (response.Answer (answer_for w call reading)) ≡ false
answer_is_no_fault w call (Ok command) = refl
answer_is_no_fault w call (Err why) = refl

kept : (x : Exchange) (xs : List Exchange) → is_storage x.told ≡ false
    → faultless (x ∷ xs) ≡ x ∷ faultless xs
kept x xs h = rw h refl

dropped : (x : Exchange) (xs : List Exchange) → is_storage x.told ≡ true
    → faultless (x ∷ xs) ≡ faultless xs
dropped x xs h = rw h refl

module _ (x : Exchange) (xs : List Exchange) (first now last : World)
    (rest : OfCalls now last xs) where
  -- by what was asked
  by_asked : (asked : Result Request Malformed) → x.asked ≡ asked
      → x.told ∷ told_of xs
      ≡ next_told asked (answers_to first (cons_option (call_in x.moment asked) (calls_of xs)))
      (told_with xs)
      → last ≡ world_after_calls first (cons_option (call_in x.moment asked) (calls_of xs))
      → OfCalls first last (x ∷ xs)
  by_asked asked e told world =
      let Told = λ (a : Result Request Malformed). x.told ∷ told_of xs
      ≡ next_told a (answers_to first (cons_option (call_in x.moment a) (calls_of xs)))
      (told_with xs) in
      let Then = λ (a : Result Request Malformed). last
      ≡ world_after_calls first (cons_option (call_in x.moment a) (calls_of xs)) in
      record { told = subst Told (sym e) told; world = subst Then (sym e) world }

  -- bytes that are no request
  no_request : (why : Malformed) → x.asked ≡ Err why → x.told ≡ response.Malformed why
      → now ≡ first → OfCalls first last (x ∷ xs)
  no_request why e is same =
      let rest_first : OfCalls first last xs =
      subst (λ (w : World). OfCalls w last xs) same rest in
      by_asked (Err why) e
      (ap (λ t. t ∷ told_of xs) is
      ∙ ap (λ ts. response.Malformed why ∷ ts) rest_first.told)
      rest_first.world

  -- a request
  a_request : (request : Request) → x.asked ≡ Ok request
      → x.told ≡ response.Answer (answer_to first (call_at x.moment request))
      → now ≡ world_then first (call_at x.moment request) → OfCalls first last (x ∷ xs)
  a_request request e is moved =
      let call = call_at x.moment request in
      let rest_then : OfCalls (world_then first call) last xs =
      subst (λ (w : World). OfCalls w last xs) moved rest in
      by_asked (Ok request) e
      (ap (λ t. t ∷ told_of xs) is
      ∙ ap (λ ts. response.Answer (answer_to first call) ∷ ts) rest_then.told)
      rest_then.world

module _ (x : Exchange) (xs : List Exchange) (first now last : World)
    (rest : OfCalls now last (faultless xs)) where
  abbrev Goal : Type 0
  Goal = OfCalls first last (faultless (x ∷ xs))

  keeps : is_storage x.told ≡ false → OfCalls first last (x ∷ faultless xs) → Goal
  keeps other h = subst (OfCalls first last) (sym (kept x xs other)) h

  was_answered : (asked : Result Request Malformed) → x.asked ≡ asked
      → Responds Answers first x.moment asked x.told now → Goal
  was_answered (Err why) e h =
      keeps (ap is_storage h.0) (no_request x (faultless xs) first now last rest why e h.0 h.1)
  was_answered (Ok request) e (inl h) =
      let call = call_at x.moment request in
      keeps (ap is_storage h.0 ∙ answer_is_no_fault first call (spelled call))
      (a_request x (faultless xs) first now last rest request e h.0 h.1)
  was_answered (Ok request) e (inr h) =
      subst (OfCalls first last) (sym (dropped x xs (ap is_storage h.0)))
      (subst (λ (w : World). OfCalls w last (faultless xs)) h.1 rest)

exchanges_run : (xs : List Exchange) (first last : World) → Exchanged first xs last
    → OfCalls first last (faultless xs)
exchanges_run [] first last h = record { told = refl; world = h }
exchanges_run (x ∷ xs) first last h =
    was_answered x xs first h.0 last (exchanges_run xs h.0 last h.3) x.asked refl h.2

pub requests_of_model : CallsRunAsTheModel → RequestsRunAsTheModel
requests_of_model of_model first last xs ran =
    let calls = exchanges_run xs first last ran in
    let model = of_model first (calls_of (faultless xs)) in
    record {
      told = calls.told ∙ ap (told_with (faultless xs)) model.answers;
      world = calls.world ∙ model.world;
    }

-- ---- Striking

module _ (account : List ℕ) (unseen : RequestName → Bool) where
  written_alike : (s t : Stage) → AreAlikeTo account unseen s t
      → AreWrittenAlike account unseen s t
  written_alike s t alike = record {
    alike = alike;
    bytes = λ plain. ap (λ r. reply_text (answer.Reply r)) (alike.replies plain);
    rows = ap (λ r. reply_text (answer.Reply r)) alike.rows;
    without = λ none. ap (λ r. reply_text (answer.Reply r)) (alike.without none);
  }

  each_written_alike : (some others : List Stage)
      → AllZip (AreAlikeTo account unseen) some others
      → AllZip (AreWrittenAlike account unseen) some others
  each_written_alike [] [] h = tt
  each_written_alike [] (t ∷ others) h = absurd h
  each_written_alike (s ∷ some) [] h = absurd h
  each_written_alike (s ∷ some) (t ∷ others) h =
      (written_alike s t h.0, each_written_alike some others h.1)

pub no_trace_in_requests : UnseenCallsLeaveNoTrace → UnseenRequestsLeaveNoTrace
no_trace_in_requests striking account first last end xs left ran left_ran is_struck =
    let answered = exchanges_run xs first last ran in
    let left_answered = exchanges_run left first end left_ran in
    let calls = calls_of (faultless xs) in
    let left_calls = calls_of (faultless left) in
    let alike = striking account first calls left_calls is_struck in
    let unseen = is_unseen token_digest account first (events_of calls) in
    record {
      answered = answered.told ∙ ap (told_with (faultless xs)) alike.answered;
      left_answered = left_answered.told ∙ ap (told_with (faultless left)) alike.left_answered;
      each_event = each_written_alike account unseen
          (kept_stages token_digest account first (events_of calls))
          (stages token_digest first (events_of left_calls)) alike.each_event;
      shows = rw answered.world (rw left_answered.world alike.shows);
    }
