-- Connections one after the other.
use Rattle.std.proofs.Common.{◌≡◌, ℕ, ◌+◌, List, [], ◌∷◌, ◌++◌, length, Option, Some, None, Result, Ok, Err, refl, sym, ap, ◌∙◌, arith, length-append, subst, inl, inr}
use Rattle.std.specs.Prelude.{IfOk, IfErr}
use Rattle.std.specs.Io.KnownBytes.{Appends}
use Rattle.std.specs.declared.time.Duration.{Duration}
use Rattle.reg_wire.specs.Exchange.{Call}
use Rattle.reg_wire.specs.declared.wire_fault.WireFault.{WireFault}
use Rattle.reg_wire.specs.declared.wire_fault.WireFault.TheVariants as fault
use Rattle.std.specs.Result.{result_ok}
use Rattle.reg_http.specs.Listening.{ChangesByTurns, count_of, moment_by}
use Rattle.reg_http.specs.Meeting.{Came, Comes, Dated, Ended, EndsOneMore, Exchanges, InTurn, Meeting, Meets, ServesInTurn, TakesNext, WhereKnown, rest_of, unread_of, wholes}
use Rattle.reg_wire.specs.Responding.{IsUnanswered}
use Rattle.reg_wire.specs.Sending.{IsSentBy}
use Rattle.reg_wire.specs.Serving.{IsAnswered, FailsBy}
use Rattle.reg_wire.specs.declared.log.Sent.{Sent}
use Rattle.reg_wire.specs.declared.response.Response.{Response}
use Rattle.reg_http.proofs.Turns.{no_turn, turn, turns_then}

-- ---- One connection

pub count_is : (served : Result Sent WireFault) → count_of (result_ok served) ≡ wholes served
count_is (Ok sent) = refl
count_is (Err why) = refl

module _ {S : Type 0} (Serves : S → Call → Response → S → Type 0) (moment : ℕ) (before after : S)
    (unread left had has : Option (List ℕ)) where
  unanswered : (why : WireFault) → IsUnanswered why before after unread left
      → Appends had has [] → FailsBy Serves moment why before after unread left had has
  unanswered fault.Read h nothing = (h, nothing)
  unanswered (fault.Write n) h nothing = absurd h
  unanswered fault.Memory h nothing = (inr h, nothing)

  unsent : (told : Response) (why : WireFault)
      → IsAnswered Serves moment before after unread left told
      → IsSentBy (Ok told) (Err why) had has
      → FailsBy Serves moment why before after unread left had has
  unsent told fault.Read h k = absurd k
  unsent told (fault.Write n) h k = record { told = told; answered = h; fewer = k.0; wrote = k.1 }
  unsent told fault.Memory h k = (inl (told, h, k.0), k.1)

  pub met : (told : Result Response WireFault) (served : Result Sent WireFault)
      → IfOk told (λ t. IsAnswered Serves moment before after unread left t)
      → IfErr told (λ why. IsUnanswered why before after unread left)
      → IsSentBy told served had has
      → Meets Serves had (record { moment = moment; unread = unread; wrote = has }) before after
      served
  met (Ok told) (Ok given) h k sent = record {
    left = left;
    ok = record {
      told = told;
      answered = h;
      wrote = sent.1;
      status = ap (λ (s : Sent). s.status) sent.0;
    };
    err = tt;
  }
  met (Ok told) (Err why) h k sent = record {
    left = left;
    ok = tt;
    err = unsent told why h sent;
  }
  met (Err why) (Ok given) h k sent = absurd sent
  met (Err why) (Err other) h k sent = record {
    left = left;
    ok = tt;
    err =
        subst (λ (w : WireFault). FailsBy Serves moment w before after unread left had has)
        (sym sent.0) (unanswered why k sent.1);
  }

-- ---- Turns one after the other

came_then : (ts more : List (Option Meeting)) (xs ys zs : List (Option (List ℕ))) → Came xs ys ts
    → Came ys zs more → Came xs zs (ts ++ more)
came_then [] more xs ys zs h k = subst (λ (l : List (Option (List ℕ))). Came l zs more) h k
came_then (t ∷ ts) more xs ys zs h k = (h.0, came_then ts more (rest_of xs) ys zs h.1 k)

dated_then : (ts more : List (Option Meeting)) (xs ys zs : List (Option Duration)) → Dated xs ys ts
    → Dated ys zs more → Dated xs zs (ts ++ more)
dated_then [] more xs ys zs h k = subst (λ (l : List (Option Duration)). Dated l zs more) h k
dated_then (None ∷ ts) more xs ys zs h k = dated_then ts more xs ys zs h k
dated_then (Some m ∷ ts) more xs ys zs h k = (h.0, dated_then ts more (rest_of xs) ys zs h.1 k)

ended_then : (ts more : List (Option Meeting)) (xs ys zs : List (Option (List ℕ))) → Ended xs ys ts
    → Ended ys zs more → Ended xs zs (ts ++ more)
ended_then [] more xs ys zs h k = subst (λ (l : List (Option (List ℕ))). Ended l zs more) h k
ended_then (None ∷ ts) more xs ys zs h k = ended_then ts more xs ys zs h k
ended_then (Some m ∷ ts) more xs ys zs h k =
    ended_then ts more (xs ++ (m.wrote ∷ [])) ys zs h k

known_then : {A : Type 0} (R : A → A → List (Option Meeting) → Type 0)
    (ts more : List (Option Meeting))
    (step : (xs ys zs : A) → R xs ys ts → R ys zs more → R xs zs (ts ++ more))
    (old now new : Option A) → WhereKnown R old now ts → WhereKnown R now new more
    → WhereKnown R old new (ts ++ more)
known_then R ts more step None now new h k = tt
known_then R ts more step (Some xs) None new h k = absurd h
known_then R ts more step (Some xs) (Some ys) None h k = absurd k
known_then R ts more step (Some xs) (Some ys) (Some zs) h k = step xs ys zs h k

known_same : {A : Type 0} (R : A → A → List (Option Meeting) → Type 0) (ts : List (Option Meeting))
    (same : (xs : A) → R xs xs ts) (old : Option A) → WhereKnown R old old ts
known_same R ts same None = tt
known_same R ts same (Some xs) = same xs

module _ {S : Type 0} (Serves : S → Call → Response → S → Type 0) (blank : Option (List ℕ)) where
  in_turn_then : (ts more : List (Option Meeting)) (a b : ℕ) (first now last : S)
      → InTurn Serves blank first ts a now → InTurn Serves blank now more b last
      → InTurn Serves blank first (ts ++ more) (a + b) last
  in_turn_then [] more a b first now last h k =
      let P : ℕ → Type 0 = λ n. InTurn Serves blank first more n last in
      let e : b ≡ a + b = omega (arith, h.0) in
      subst P e (subst (λ (s : S). InTurn Serves blank s more b last) h.1 k)
  in_turn_then (None ∷ ts) more a b first now last h k = in_turn_then ts more a b first now last h k
  in_turn_then (Some m ∷ ts) more a b first now last h k = (
    h.0,
    h.1,
    h.2 + b,
    h.3,
    omega (arith, h.4),
    in_turn_then ts more h.2 b h.0 now last h.5 k,
  )

  pub none_served : (coming written : Option (List (Option (List ℕ))))
      (readings : Option (List (Option Duration))) (before : S)
      → ServesInTurn Serves blank 0 0 coming coming readings readings written written before before
  none_served coming written readings before = record {
    turns = [];
    each = refl;
    came = known_same Came [] (λ xs. refl) coming;
    dated = known_same Dated [] (λ xs. refl) readings;
    ended = known_same Ended [] (λ xs. refl) written;
    in_turn = (refl, refl);
  }

  pub served_then : (n m a b : ℕ) (coming left later : Option (List (Option (List ℕ))))
      (readings unread last_ones : Option (List (Option Duration)))
      (had has then : Option (List (Option (List ℕ)))) (first now last : S)
      → ServesInTurn Serves blank n a coming left readings unread had has first now
      → ServesInTurn Serves blank m b left later unread last_ones has then now last
      → ServesInTurn Serves blank (n + m) (a + b) coming later readings last_ones had then first last
  served_then n m a b coming left later readings unread last_ones had has then first now last h k =
      record {
        turns = h.turns ++ k.turns;
        each = omega (arith, length-append h.turns k.turns, h.each, k.each);
        came =
            known_then Came h.turns k.turns (came_then h.turns k.turns) coming left later h.came
            k.came;
        dated =
            known_then Dated h.turns k.turns (dated_then h.turns k.turns) readings unread last_ones
            h.dated k.dated;
        ended =
            known_then Ended h.turns k.turns (ended_then h.turns k.turns) had has then h.ended
            k.ended;
        in_turn = in_turn_then h.turns k.turns a b first now last h.in_turn k.in_turn;
      }

  -- ---- One turn

  came_one : (t : Option Meeting) (old new : Option (List (Option (List ℕ)))) → Comes old new (unread_of t)
      → WhereKnown Came old new (t ∷ [])
  came_one t None new h = tt
  came_one t (Some xs) None h = absurd h
  came_one t (Some xs) (Some ys) h = (h.0, h.1)

  dated_one : (m : Meeting) (reading : Option Duration) (old new : Option (List (Option Duration)))
      → m.moment ≡ moment_by reading → TakesNext old new reading
      → WhereKnown Dated old new (Some m ∷ [])
  dated_one m reading None new is h = tt
  dated_one m reading (Some xs) None is h = absurd h
  dated_one m reading (Some xs) (Some ys) is h = (is ∙ ap moment_by h.0, h.1)

  ended_one : (m : Meeting) (old new : Option (List (Option (List ℕ)))) → EndsOneMore old new m.wrote
      → WhereKnown Ended old new (Some m ∷ [])
  ended_one m None new h = tt
  ended_one m (Some xs) None h = absurd h
  ended_one m (Some xs) (Some ys) h = h

  pub no_meeting : (coming left : Option (List (Option (List ℕ))))
      (readings : Option (List (Option Duration))) (had has : Option (List (Option (List ℕ))))
      (before : S) → Comes coming left None → has ≡ had
      → ServesInTurn Serves blank 1 0 coming left readings readings had has before before
  no_meeting coming left readings had has before comes same = record {
    turns = None ∷ [];
    each = refl;
    came = came_one None coming left comes;
    dated = known_same Dated (None ∷ []) (λ xs. refl) readings;
    ended =
        subst (λ (w : Option (List (Option (List ℕ)))). WhereKnown Ended had w (None ∷ []))
        (sym same) (known_same Ended (None ∷ []) (λ xs. refl) had);
    in_turn = (refl, refl);
  }

  pub a_meeting : (moment : ℕ) (unread : Option (List ℕ)) (reading : Option Duration)
      (coming left : Option (List (Option (List ℕ))))
      (readings later : Option (List (Option Duration))) (had has : Option (List (Option (List ℕ))))
      (before after : S) (sent : Option Sent) → Comes coming left (Some unread)
      → moment ≡ moment_by reading → TakesNext readings later reading
      → Exchanges Serves blank moment unread had has before after sent
      → ServesInTurn Serves blank 1 (count_of sent) coming left readings later had has before after
  a_meeting moment unread reading coming left readings later had has before after sent comes is takes
      h =
      let m : Meeting = record { moment = moment; unread = unread; wrote = h.wrote } in
      record {
        turns = Some m ∷ [];
        each = refl;
        came = came_one (Some m) coming left comes;
        dated = dated_one m reading readings later is takes;
        ended = ended_one m had has h.ends;
        in_turn = (
          after,
          h.outcome,
          0,
          h.meets,
          omega (arith, h.counted),
          (refl, refl),
        );
      }

  -- ---- The same, without what is known of connections

  lead_in_turn : (ts : List (Option Meeting)) (answered : ℕ) (before after : S)
      → InTurn Serves blank before ts answered after
      → ChangesByTurns Serves (length ts) answered before after
  lead_in_turn [] answered before after h =
      let P : ℕ → Type 0 = λ n. ChangesByTurns Serves 0 n before after in
      subst P (sym h.0) (no_turn Serves 0 before after h.1)
  lead_in_turn (None ∷ ts) answered before after h =
      let rest = lead_in_turn ts answered before after h in record {
        turns = rest.turns;
        few = omega (arith, rest.few);
        enough = rest.enough;
        lead = rest.lead;
      }
  lead_in_turn (Some m ∷ ts) answered before after h =
      let rest = lead_in_turn ts h.2 h.0 after h.5 in
      let one =
      turn Serves m.moment h.1 before h.0 m.unread h.3.left blank m.wrote h.3.ok h.3.err in
      let both = turns_then Serves 1 (length ts) _ h.2 before h.0 after one rest in record {
        turns = both.turns;
        few = omega (arith, both.few);
        enough = omega (arith, both.enough, h.4);
        lead = both.lead;
      }

  pub as_turns : (count answered : ℕ) (coming left : Option (List (Option (List ℕ))))
      (readings later : Option (List (Option Duration))) (had has : Option (List (Option (List ℕ))))
      (before after : S)
      → ServesInTurn Serves blank count answered coming left readings later had has before after
      → ChangesByTurns Serves count answered before after
  as_turns count answered coming left readings later had has before after h =
      let P : ℕ → Type 0 = λ n. ChangesByTurns Serves n answered before after in
      subst P h.each (lead_in_turn h.turns answered before after h.in_turn)
