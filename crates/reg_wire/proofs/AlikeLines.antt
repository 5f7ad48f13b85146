-- Isolation of lines is that of their calls.
use Rattle.std.proofs.Common.{◌≡◌, ℕ, List, Option, None, Some, sym, ap, ◌∙◌, inl, inr}
use Rattle.std.specs.Prelude.{◌≢◌, MatchOption, option_and_then}
use Rattle.reg_core.specs.View.{view_of}
use Rattle.reg_core.specs.World.{World}
use Rattle.reg_office.specs.Caller.{caller_of}
use Rattle.reg_wire.specs.Exchange.{Call}
use Rattle.reg_wire.specs.Laws.{CallsAreAnsweredAlike, LookAlike}
use Rattle.reg_wire.specs.Script.Answers.{Serves, answer_line}
use Rattle.reg_wire.specs.Script.Laws.{LinesAreAnsweredAlike}
use Rattle.reg_wire.specs.Script.Line.{line_of}
use Rattle.reg_wire.specs.Script.Lines.{refusal, storage}

module _ (isolation : CallsAreAnsweredAlike) (w v : World) (text other : List ℕ) (now then : World)
    (no_fault : text ≢ storage) (no_other_fault : other ≢ storage) where
  -- the same bytes, and the same view after
  abbrev Alike : Option (List ℕ) → Type 0
  Alike caller = (text ≡ other) × (view_of now caller ≡ view_of then caller)

  served_alike : (call : Call) → LookAlike w v (caller_of call.token) → Serves w call text now
      → Serves v call other then → Alike (caller_of call.token)
  served_alike call look (inl h) (inl k) =
      let same = isolation w v call look in
      let shown = λ (x : World). view_of x (caller_of call.token) in
      (h.0 ∙ ap answer_line same.answers ∙ sym k.0, ap shown h.1 ∙ same.views ∙ ap shown (sym k.1))
  served_alike call look (inl h) (inr k) = absurd (no_other_fault k.0)
  served_alike call look (inr h) k = absurd (no_fault h.0)

  abbrev AnsweredBy : World → List ℕ → World → Option Call → Type 0
  AnsweredBy before answer after o =
      MatchOption o ((answer ≡ refusal) × (after ≡ before))
      (λ call. Serves before call answer after)

  abbrev sender_of : Option Call → Option (List ℕ)
  sender_of o = option_and_then (λ (call : Call). caller_of call.token) o

  answered_alike : (o : Option Call) → LookAlike w v (sender_of o) → AnsweredBy w text now o
      → AnsweredBy v other then o → Alike (sender_of o)
  answered_alike None look h k = (
    h.0 ∙ sym k.0,
    ap (λ x. view_of x None) h.1 ∙ look.views
        ∙ ap (λ x. view_of x None) (sym k.1),
  )
  answered_alike (Some call) look h k = served_alike call look h k

pub lines_alike : CallsAreAnsweredAlike → LinesAreAnsweredAlike
lines_alike isolation w v now then line text other look h k =
    answered_alike isolation w v text other now then h.no_fault k.no_fault (line_of line) look
    h.answered k.answered
