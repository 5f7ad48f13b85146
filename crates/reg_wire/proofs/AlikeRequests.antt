-- Isolation of requests in bytes is that of their calls.
use Rattle.std.proofs.Common.{◌≡◌, ℕ, List, Option, None, Result, Ok, Err, sym, ap, ◌∙◌, inl, inr, subst}
use Rattle.std.specs.Prelude.{◌≢◌}
use Rattle.reg_core.specs.View.{view_of}
use Rattle.reg_core.specs.World.{World}
use Rattle.reg_office.specs.Caller.{caller_of}
use Rattle.reg_wire.specs.Laws.{CallsAreAnsweredAlike, LookAlike}
use Rattle.reg_head.specs.Request.{Request, AskOneThing}
use Rattle.reg_head.specs.declared.malformed.Malformed.{Malformed}
use Rattle.reg_wire.specs.RequestLaws.{RequestsAreAnsweredAlike}
use Rattle.reg_wire.specs.Response.{status, response_text}
use Rattle.reg_wire.specs.Serving.{Answers, Responds, asker, call_at, storage}
use Rattle.reg_wire.specs.declared.response.Response.{Response}
use Rattle.reg_wire.specs.declared.response.Response.TheVariants as response

module _ (isolation : CallsAreAnsweredAlike) (w v now then : World) (moment : ℕ)
    (told other : Response) (no_fault : told ≢ storage) (no_other_fault : other ≢ storage) where
  -- the same answer, and the same view after
  abbrev Alike : Option (List ℕ) → Type 0
  Alike caller = (told ≡ other) × (view_of now caller ≡ view_of then caller)

  called_alike : (request : Request) → LookAlike w v (caller_of request.token)
      → Answers w (call_at moment request) told now
      → Answers v (call_at moment request) other then → Alike (caller_of request.token)
  called_alike request look (inl h) (inl k) =
      let same = isolation w v (call_at moment request) look in
      let shown = λ (x : World). view_of x (caller_of request.token) in (
        h.0 ∙ ap response.Answer same.answers ∙ sym k.0,
        ap shown h.1 ∙ same.views ∙ ap shown (sym k.1),
      )
  called_alike request look (inl h) (inr k) = absurd (no_other_fault k.0)
  called_alike request look (inr h) k = absurd (no_fault h.0)

  asked_alike : (asked : Result Request Malformed) → LookAlike w v (asker asked)
      → Responds Answers w moment asked told now → Responds Answers v moment asked other then
      → Alike (asker asked)
  asked_alike (Ok request) look h k = called_alike request look h k
  asked_alike (Err why) look h k = (
    h.0 ∙ sym k.0,
    ap (λ x. view_of x None) h.1 ∙ look.views ∙ ap (λ x. view_of x None) (sym k.1),
  )

pub requests_alike : AskOneThing → CallsAreAnsweredAlike → RequestsAreAnsweredAlike
requests_alike one isolation w v now then moment bytes told other look h k =
    let P = λ (a : Result Request Malformed). Responds Answers v moment a other then in
    let same = asked_alike isolation w v now then moment told other h.no_fault k.no_fault h.asked
    (look h.asked h.asks) h.responds
    (subst P (one bytes k.asked h.asked k.asks h.asks) k.responds) in
    record {
      same = ap response_text same.0;
      status = ap status same.0;
      views = λ asked asks.
          subst (λ a. view_of now (asker a) ≡ view_of then (asker a))
          (one bytes h.asked asked h.asks asks) same.1;
    }
