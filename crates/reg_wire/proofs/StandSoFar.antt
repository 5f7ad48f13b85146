-- What was promised of the first of some requests stands, whatever comes later.
use Rattle.std.proofs.Common.{◌≡◌, ◌≢◌, ℕ, Bool, List, [], ◌∷◌, ◌++◌, Option, None, Some, Result, Ok, Err, refl, sym, ap, ◌∙◌, inl, inr}
use Rattle.std.proofs.lemmas.Bool.{false≢true}
use Rattle.reg_core.specs.World.{World}
use Rattle.reg_keeper.specs.Keeper.{GoesOn}
use Rattle.reg_keeper.specs.declared.keeper.Fault.{Fault}
use Rattle.reg_keeper.proofs.Premises.{goes_on_both, goes_on_there}
use Rattle.reg_print.specs.declared.answer.Answer.{Answer}
use Rattle.reg_print.specs.declared.answer.Answer.TheVariants as answer
use Rattle.reg_wire.specs.Exchange.{Call, FaultOf, GivesAnswer, IsNotStorage, IsNotOfStore, PremiseGoesOn}
use Rattle.reg_wire.specs.Laws.{CallsRunAsTheModel}
use Rattle.reg_head.specs.Request.{Request}
use Rattle.reg_head.specs.declared.malformed.Malformed.{Malformed}
use Rattle.reg_wire.specs.RequestLaws.{Exchanged, RequestsStandSoFar, is_storage, told_of}
use Rattle.reg_wire.specs.Serving.{Answers, AnswersOver, Exchange, Lead, Responds, call_at, given_response, storage}
use Rattle.reg_wire.specs.declared.response.Response.{Response}
use Rattle.reg_wire.specs.declared.response.Response.TheVariants as response
use Rattle.reg_wire.proofs.Exchanges.{requests_of_model}

answer_is_no_storage : (a : Answer) → IsNotStorage a → response.Answer a ≢ storage
answer_is_no_storage (answer.Reply reply) h same = false≢true (ap is_storage same)
answer_is_no_storage (answer.Wire refusal) h same = false≢true (ap is_storage same)
answer_is_no_storage answer.Storage h same = absurd h

malformed_is_no_storage : (why : Malformed) → response.Malformed why ≢ storage
malformed_is_no_storage why same = false≢true (ap is_storage same)

module _ {S : Type 0} (world : S → World) (Holds Sound : S → Type 0) (fails : Bool) where
  abbrev pub Over : S → Call → Response → S → Type 0
  Over = AnswersOver world Holds Sound fails

  -- ---- One request

  module _ (before after : S) (told : Response) where
    -- the fault at which it was answered 503, and what becomes of the premise
    abbrev GoesOnBy : Type 0
    GoesOnBy =
        (fault : Option Fault) × FaultOf storage fails told fault
        × GoesOn Holds Sound before after (IsNotOfStore fault)

    given_goes_on : (call : Call) (result : Result Answer Fault) → told ≡ given_response result
        → GivesAnswer world Holds Sound fails before call result after → GoesOnBy
    given_goes_on call (Ok a) is gives =
        (None, λ same. answer_is_no_storage a gives.is_answered (sym is ∙ same), gives.makes.premise)
    given_goes_on call (Err fault) is gives =
        (Some fault, (is, gives.makes.fault), gives.makes.premise)

    one_goes_on : (moment : ℕ) (asked : Result Request Malformed)
        → Responds Over before moment asked told after → GoesOnBy
    one_goes_on moment (Ok request) h =
        given_goes_on (call_at moment request) h.result h.is_told h.gives
    one_goes_on moment (Err why) h =
        (None, λ same. malformed_is_no_storage why (sym h.0 ∙ same), goes_on_there h.1)

    given_answers : (call : Call) (result : Result Answer Fault) → told ≡ given_response result
        → GivesAnswer world Holds Sound fails before call result after → Holds after
        → Answers (world before) call told (world after)
    given_answers call (Ok a) is gives holds =
        inl (is ∙ ap response.Answer (gives.answers holds), gives.makes.made holds)
    given_answers call (Err fault) is gives holds = inr (is, gives.makes.kept holds)

    one_answers : (moment : ℕ) (asked : Result Request Malformed)
        → Responds Over before moment asked told after → Holds after
        → Responds Answers (world before) moment asked told (world after)
    one_answers moment (Ok request) h holds =
        given_answers (call_at moment request) h.result h.is_told h.gives holds
    one_answers moment (Err why) h holds = (h.0, ap world h.1)

  -- ---- Requests in turn

  lead_goes_on : (xs : List Exchange) (first last : S) → Lead Over first xs last
      → PremiseGoesOn Holds Sound storage fails first last (told_of xs)
  lead_goes_on [] first last h = record { faults = []; each = tt; goes_on = goes_on_there h }
  lead_goes_on (x ∷ xs) first last h =
      let one = one_goes_on first h.0 x.told x.moment x.asked h.2 in
      let rest = lead_goes_on xs h.0 last h.3 in
      record {
        faults = one.0 ∷ rest.faults;
        each = (one.1, rest.each);
        goes_on = goes_on_both one.2 rest.goes_on;
      }

  pub exchanged : (xs : List Exchange) (first last : S) → Lead Over first xs last → Holds last
      → Exchanged (world first) xs (world last)
  exchanged [] first last h holds = ap world h
  exchanged (x ∷ xs) first last h holds =
      let then = (lead_goes_on xs h.0 last h.3).goes_on.before holds in (
        world h.0,
        h.1,
        one_answers first h.0 x.told x.moment x.asked h.2 then,
        exchanged xs h.0 last h.3 holds,
      )

  split : (xs later : List Exchange) (first last : S) → Lead Over first (xs ++ later) last
      → (now : S) × Lead Over first xs now × Lead Over now later last
  split [] later first last h = (first, refl, h)
  split (x ∷ xs) later first last h =
      let rest = split xs later h.0 last h.3 in
      (rest.0, (h.0, h.1, h.2, rest.1), rest.2)

  pub stand_so_far : CallsRunAsTheModel → RequestsStandSoFar world Holds Sound fails
  stand_so_far of_model first last xs later h =
      let parts = split xs later first last h in
      record {
        now = parts.0;
        in_turn = exchanged xs first parts.0 parts.1;
        model = λ holds.
            requests_of_model of_model (world first) (world parts.0) xs
            (exchanged xs first parts.0 parts.1 holds);
        premise = lead_goes_on xs first parts.0 parts.1;
        more = parts.2;
        later_premise = lead_goes_on later parts.0 last parts.2;
      }
