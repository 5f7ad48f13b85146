use Rattle.std.proofs.Common.{◌≡◌, ℕ, suc, ◌<◌, ◌≤◌, List, [], ◌∷◌, true, length, map, get_or, refl, sym, arith}
use Rattle.std.proofs.lemmas.Bool.{false_from_ne_true}
use Rattle.std.specs.Prelude.{◌==◌}
use Rattle.reg_wire.specs.Script.Line.{line_feed_of}
use Rattle.reg_wire.proofs.script.office_responder.with_line_feeds.Goals as goal

-- a body with no TAB is as it is written
as_it_is : (body : List ℕ)
    → ((k : ℕ) → 0 ≤ k → k < length body → ¬ ((get_or body k 0 == 9) ≡ true))
    → map line_feed_of body ≡ body
as_it_is [] h = refl
as_it_is (b ∷ bs) h =
    rw (
      false_from_ne_true (b == 9) (h 0 (omega arith) (omega arith)),
      as_it_is bs (λ k low high. h (suc k) (omega arith) (omega arith)),
    ) refl

pub returns-in-None : goal.returns-in-None
returns-in-None c = sym (as_it_is c.args.body.now c.in-None.ensures)
