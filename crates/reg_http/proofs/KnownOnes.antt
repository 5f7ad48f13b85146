-- What is answered over connections of which all bytes are known.
use Rattle.std.proofs.Common.{◌≡◌, ℕ, Bool, ◌+◌, List, [], ◌∷◌, ◌++◌, length, map, take, Option, Some, None, Result, Ok, Err, refl, sym, ap, ◌∙◌, arith, append-nil, append_assoc, subst, inl, inr, ◌⊎◌}
use Rattle.std.specs.Io.KnownBytes.{Appends}
use Rattle.std.specs.declared.time.Duration.{Duration}
use Rattle.reg_core.specs.World.{World}
use Rattle.reg_wire.specs.Exchange.{Call}
use Rattle.reg_wire.specs.Laws.{CallsRunAsTheModel}
use Rattle.reg_wire.specs.declared.wire_fault.WireFault.{WireFault}
use Rattle.reg_wire.specs.declared.wire_fault.WireFault.TheVariants as fault
use Rattle.reg_head.specs.Reading.{AskByAllTheirBytes}
use Rattle.reg_head.specs.Request.{BytesAsk}
use Rattle.reg_http.specs.Known.{AreKnownAnswers, IsAnswerTo, IsWrittenOver, KnownConnectionsAreAnswered}
use Rattle.reg_http.specs.Listening.{moment_by}
use Rattle.reg_http.specs.Meeting.{Came, Dated, Ended, InTurn, Meeting, Meets, first_of, rest_of, wholes}
use Rattle.reg_wire.specs.Response.{response_text}
use Rattle.reg_wire.specs.Serving.{AnswersOver, Exchange, FailsBy, IsAnswered, Lead, Responds}
use Rattle.reg_wire.specs.declared.log.Sent.{Sent}
use Rattle.reg_wire.specs.declared.response.Response.{Response}
use Rattle.reg_wire.proofs.Exchanges.{requests_of_model}
use Rattle.reg_wire.proofs.StandSoFar.{exchanged}

-- the bytes that came, where some did
abbrev bytes_of : Option (Option (List ℕ)) → Option (List ℕ)
bytes_of None = None
bytes_of (Some bytes) = bytes

abbrev is_some : Option (Option (List ℕ)) → ℕ
is_some None = 0
is_some (Some bytes) = 1

-- what was written over a connection over which nothing was
wrote_it : (wrote : Option (List ℕ)) (bs : List ℕ) → Appends (Some []) wrote bs
    → (text : List ℕ) × (wrote ≡ Some text) × (text ≡ bs)
wrote_it None bs h = absurd h
wrote_it (Some text) bs h = (text, refl, h)

module _ (by_all : AskByAllTheirBytes) {S : Type 0} (Serves : S → Call → Response → S → Type 0) where
  -- ---- One connection

  -- it was answered so, and this was written of the answer
  record IsReplied (came : ℕ) (all text : List ℕ) (before now : S) (whole : ℕ) : Type 0 where
    x : Exchange
    answer : IsAnswerTo came all x
    asks : BytesAsk x.bytes x.asked
    responds : Responds Serves before x.moment x.asked x.told now
    written : (others : ℕ) → IsWrittenOver text (response_text x.told) (whole + others) others

  -- nothing was written, and nothing has changed; or it was answered
  abbrev IsHeard : ℕ → List ℕ → List ℕ → S → S → ℕ → Type 0
  IsHeard came all text before now whole =
      ((text ≡ []) × (now ≡ before) × (whole ≡ 0)) ⊎ IsReplied came all text before now whole

  abbrev Heard : ℕ → List ℕ → Option (List ℕ) → S → S → ℕ → Type 0
  Heard came all wrote before now whole =
      (text : List ℕ) × (wrote ≡ Some text) × IsHeard came all text before now whole

  module _ (came : ℕ) (all : List ℕ) (before now : S) (left wrote : Option (List ℕ)) where
    replied : (told : Response) (bs : List ℕ) (whole : ℕ)
        → IsAnswered Serves came before now (Some all) left told → Appends (Some []) wrote bs
        → ((text : List ℕ) → text ≡ bs → (others : ℕ)
        → IsWrittenOver text (response_text told) (whole + others) others)
        → Heard came all wrote before now whole
    replied told bs whole h appends written =
        let is = wrote_it wrote bs appends in (
          is.0,
          is.1,
          inr (record {
            x = record { moment = came; bytes = all; asked = h.asked; told = told };
            answer = record { moment = refl; bytes = refl };
            asks = by_all all left h.asked h.is_asked;
            responds = h.responds;
            written = written is.0 is.2;
          }),
        )

    unheard : Appends (Some []) wrote [] → now ≡ before → Heard came all wrote before now 0
    unheard appends same =
        let is = wrote_it wrote [] appends in (is.0, is.1, inl (is.2, same, refl))

    failed : (why : WireFault)
        → FailsBy Serves came why before now (Some all) left (Some []) wrote
        → Heard came all wrote before now 0
    failed fault.Read h = unheard h.1 h.0.same
    failed (fault.Write n) h =
        replied h.told (take n (response_text h.told)) 0 h.answered h.wrote
        (λ text is others. inr (n, is, omega arith))
    failed fault.Memory (inl h, nothing) =
        replied h.0 [] 0 h.1 nothing (λ text is others. inr (0, is, omega arith))
    failed fault.Memory (inr same, nothing) = unheard nothing same

  met_known : (m : Meeting) (all : List ℕ) (before now : S) (outcome : Result Sent WireFault)
      → m.unread ≡ Some all → Meets Serves (Some []) m before now outcome
      → Heard m.moment all m.wrote before now (wholes outcome)
  met_known m all before now (Ok sent) is h =
      let Answered : Option (List ℕ) → Type 0 =
      λ unread. IsAnswered Serves m.moment before now unread h.left h.ok.told in
      replied m.moment all before now h.left m.wrote h.ok.told (response_text h.ok.told) 1
      (subst Answered is h.ok.answered) h.ok.wrote (λ text same others. inl (same, refl))
  met_known m all before now (Err why) is h =
      let Fails : Option (List ℕ) → Type 0 =
      λ unread. FailsBy Serves m.moment why before now unread h.left (Some []) m.wrote in
      failed m.moment all before now h.left m.wrote why (subst Fails is h.err)

  -- ---- All of them

  -- what is written over them comes after what was written before
  record AllHeard (coming : List (List ℕ)) (readings : List (Option Duration))
      (had has : List (Option (List ℕ))) (answered : ℕ) (before after : S) : Type 0 where
    wrote : List (Option (List ℕ))
    exchanges : List Exchange
    grown : has ≡ had ++ wrote
    answers : AreKnownAnswers coming readings wrote exchanges answered
    lead : Lead Serves before exchanges after

  module _ (came : ℕ) (all text : List ℕ) (more : List (List ℕ)) (readings : List (Option Duration))
      (had has : List (Option (List ℕ))) (whole others : ℕ) (before now after : S)
      (is_moment : came ≡ moment_by (first_of readings)) where
    heard_then : IsHeard came all text before now whole
        → AllHeard more (rest_of readings) (had ++ (Some text ∷ [])) has others now after
        → AllHeard (all ∷ more) readings had has (whole + others) before after
    heard_then (inl none) rest =
        let AnsweredBy : ℕ → Type 0 =
        λ n. AreKnownAnswers more (rest_of readings) rest.wrote rest.exchanges n in
        let e : others ≡ whole + others = omega (arith, none.2) in
        record {
          wrote = Some text ∷ rest.wrote;
          exchanges = rest.exchanges;
          grown = rest.grown ∙ append_assoc had (Some text ∷ []) rest.wrote;
          answers = (text, rest.wrote, refl, inl (none.0, subst AnsweredBy e rest.answers));
          lead = subst (λ (s : S). Lead Serves s rest.exchanges after) none.1 rest.lead;
        }
    heard_then (inr one) rest = record {
      wrote = Some text ∷ rest.wrote;
      exchanges = one.x ∷ rest.exchanges;
      grown = rest.grown ∙ append_assoc had (Some text ∷ []) rest.wrote;
      answers = (
        text,
        rest.wrote,
        refl,
        inr (
          one.x,
          rest.exchanges,
          refl,
          subst (λ (n : ℕ). IsAnswerTo n all one.x) is_moment one.answer,
          others,
          one.written others,
          rest.answers,
        ),
      );
      lead = (now, one.asks, one.responds, rest.lead);
    }

  all_heard : (coming : List (List ℕ)) (turns : List (Option Meeting)) (answered : ℕ)
      (left : List (Option (List ℕ))) (readings later : List (Option Duration))
      (had has : List (Option (List ℕ))) (before after : S) → length turns ≡ length coming
      → Came (map (λ (b : List ℕ). Some b) coming) left turns → Dated readings later turns
      → Ended had has turns → InTurn Serves (Some []) before turns answered after
      → AllHeard coming readings had has answered before after
  all_heard [] [] answered left readings later had has before after same came dated ended h = record {
    wrote = [];
    exchanges = [];
    grown = ended ∙ sym (append-nil had);
    answers = (refl, refl, h.0);
    lead = h.1;
  }
  all_heard [] (t ∷ ts) answered left readings later had has before after same came dated ended h =
      absurd (omega (arith, same))
  all_heard (b ∷ bs) [] answered left readings later had has before after same came dated ended h =
      absurd (omega (arith, same))
  all_heard (b ∷ bs) (None ∷ ts) answered left readings later had has before after same came dated
      ended h = let e : 0 ≡ 1 = ap is_some came.0 in absurd (omega (arith, e))
  all_heard (b ∷ bs) (Some m ∷ ts) answered left readings later had has before after same came dated
      ended h =
      let one = met_known m b before h.0 h.1 (ap bytes_of came.0) h.3 in
      let EndedFrom : Option (List ℕ) → Type 0 = λ wrote. Ended (had ++ (wrote ∷ [])) has ts in
      let AllHeardBy : ℕ → Type 0 = λ n. AllHeard (b ∷ bs) readings had has n before after in
      let rest =
      all_heard bs ts h.2 left (rest_of readings) later (had ++ (Some one.0 ∷ [])) has h.0 after
      (omega (arith, same)) came.1 dated.1 (subst EndedFrom one.1 ended) h.5 in
      subst AllHeardBy (sym h.4)
      (heard_then m.moment b one.0 bs readings had has (wholes h.1) h.2 before h.0 after dated.0
      one.2 rest)

module _ (by_all : AskByAllTheirBytes) (of_model : CallsRunAsTheModel) {S : Type 0}
    (world : S → World) (Holds Sound : S → Type 0) (fails : Bool) where
  pub known_answered : KnownConnectionsAreAnswered world Holds Sound fails
  known_answered first last coming None readings later wrote answered h = absurd h.came
  known_answered first last coming (Some left) readings None wrote answered h = absurd h.dated
  known_answered first last coming (Some left) readings (Some later) wrote answered h =
      let Over = AnswersOver world Holds Sound fails in
      let all =
      all_heard by_all Over coming h.turns answered left readings later [] wrote first last h.each
      h.came h.dated h.ended h.in_turn in
      let AnswersIn : List (Option (List ℕ)) → Type 0 =
      λ texts. AreKnownAnswers coming readings texts all.exchanges answered in
      record {
        exchanges = all.exchanges;
        answers = subst AnswersIn (sym all.grown) all.answers;
        lead = all.lead;
        model = λ holds.
            requests_of_model of_model (world first) (world last) all.exchanges
            (exchanged world Holds Sound fails all.exchanges first last all.lead holds);
      }
