-- Turns one after the other.
use Rattle.std.proofs.Common.{◌≡◌, ℕ, ◌+◌, ◌≤◌, List, [], ◌∷◌, ◌++◌, Option, Result, Ok, Err, refl, arith, append-nil, length-append, subst, inl, inr, ◌⊎◌}
use Rattle.std.specs.Prelude.{IfOk, IfErr}
use Rattle.std.specs.Io.KnownBytes.{IsAtEnd}
use Rattle.reg_wire.specs.Exchange.{Call}
use Rattle.reg_wire.specs.declared.wire_fault.WireFault.{WireFault}
use Rattle.reg_wire.specs.declared.wire_fault.WireFault.TheVariants as fault
use Rattle.reg_head.specs.Request.{Request, BytesAsk, IsSettled}
use Rattle.reg_head.specs.declared.malformed.Malformed.{Malformed}
use Rattle.reg_http.specs.Listening.{ChangesByTurns}
use Rattle.reg_http.specs.Meeting.{wholes}
use Rattle.reg_wire.specs.declared.log.Sent.{Sent}
use Rattle.reg_wire.specs.Serving.{Exchange, IsAnswered, IsServed, FailsBy, Lead}
use Rattle.reg_wire.specs.declared.response.Response.{Response}

-- what was read asks it, also where no more came
asks_it : (left : Option (List ℕ)) (bytes : List ℕ) (asked : Result Request Malformed)
    → IsSettled bytes asked ⊎ (IsAtEnd left × BytesAsk bytes asked) → BytesAsk bytes asked
asks_it left bytes asked (inl settled) =
    subst (λ (t : List ℕ). BytesAsk t asked) (append-nil bytes) (settled [])
asks_it left bytes asked (inr (end, asks)) = asks

module _ {S : Type 0} (Serves : S → Call → Response → S → Type 0) where
  lead_then : (xs more : List Exchange) (first now last : S) → Lead Serves first xs now
      → Lead Serves now more last → Lead Serves first (xs ++ more) last
  lead_then [] more first now last h k = subst (λ (s : S). Lead Serves s more last) h k
  lead_then (x ∷ xs) more first now last h k =
      (h.0, h.1, h.2, lead_then xs more h.0 now last h.3 k)

  pub no_turn : (most : ℕ) (before after : S) → after ≡ before
      → ChangesByTurns Serves most 0 before after
  no_turn most before after same =
      record { turns = []; few = omega arith; enough = omega arith; lead = same }

  pub turns_then : (n m a b : ℕ) (first now last : S) → ChangesByTurns Serves n a first now
      → ChangesByTurns Serves m b now last → ChangesByTurns Serves (n + m) (a + b) first last
  turns_then n m a b first now last h k = record {
    turns = h.turns ++ k.turns;
    few = omega (arith, length-append h.turns k.turns, h.few, k.few);
    enough = omega (arith, length-append h.turns k.turns, h.enough, k.enough);
    lead = lead_then h.turns k.turns first now last h.lead k.lead;
  }

  one_turn : (answered moment : ℕ) (before after : S) (unread left : Option (List ℕ))
      (told : Response) → answered ≤ 1 → IsAnswered Serves moment before after unread left told
      → ChangesByTurns Serves 1 answered before after
  one_turn answered moment before after unread left told fits h = record {
    turns = record {
      moment = moment;
      bytes = h.is_asked.bytes;
      asked = h.asked;
      told = told;
    } ∷ [];
    few = omega arith;
    enough = omega arith;
    lead = (after, asks_it left h.is_asked.bytes h.asked h.is_asked.asks, h.responds, refl);
  }

  failed_turn : (moment : ℕ) (why : WireFault) (before after : S)
      (unread left had has : Option (List ℕ))
      → FailsBy Serves moment why before after unread left had has
      → ChangesByTurns Serves 1 0 before after
  failed_turn moment fault.Read before after unread left had has h =
      no_turn 1 before after h.0.same
  failed_turn moment (fault.Write n) before after unread left had has h =
      one_turn 0 moment before after unread left h.told (omega arith) h.answered
  failed_turn moment fault.Memory before after unread left had has (inl h, nothing) =
      one_turn 0 moment before after unread left h.0 (omega arith) h.1
  failed_turn moment fault.Memory before after unread left had has (inr same, nothing) =
      no_turn 1 before after same

  pub turn : (moment : ℕ) (r : Result Sent WireFault) (before after : S)
      (unread left had has : Option (List ℕ))
      → IfOk r (λ sent. IsServed Serves moment before after unread left had has sent.status)
      → IfErr r (λ why. FailsBy Serves moment why before after unread left had has)
      → ChangesByTurns Serves 1 (wholes r) before after
  turn moment (Ok sent) before after unread left had has h k =
      one_turn 1 moment before after unread left h.told (omega arith) h.answered
  turn moment (Err why) before after unread left had has h k =
      failed_turn moment why before after unread left had has k
