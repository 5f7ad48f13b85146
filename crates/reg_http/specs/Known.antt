-- Connections of which all bytes are known, and what is answered over them.
use Rattle.std.specs.Prelude.{◌≡◌, ◌⊎◌, ◌+◌, ℕ, Bool, List, [], ◌∷◌, length, map, take, Option, Some}
use Rattle.std.specs.declared.time.Duration.{Duration}
use Rattle.reg_core.specs.World.{World}
use Rattle.reg_wire.specs.RequestLaws.{ExchangesAreOfModel, faultless}
use Rattle.reg_http.specs.Listening.{moment_by}
use Rattle.reg_http.specs.Meeting.{ServesInTurn, first_of, rest_of}
use Rattle.reg_wire.specs.Response.{response_text}
use Rattle.reg_wire.specs.Serving.{AnswersOver, Exchange, Lead}

-- connections come with these bytes to be read, in this order
abbrev pub all_coming : List (List ℕ) → Option (List (Option (List ℕ)))
all_coming bytes = Some (map (λ (b : List ℕ). Some b) bytes)

-- what is answered to all bytes of a connection, at the moment when it came
pub record IsAnswerTo (came : ℕ) (all : List ℕ) (x : Exchange) : Type 0 where
  pub moment : x.moment ≡ came
  pub bytes : x.bytes ≡ all

-- The whole answer was written, which is counted; or only its first bytes, which is not.
abbrev pub IsWrittenOver : List ℕ → List ℕ → ℕ → ℕ → Type 0
IsWrittenOver text answer answered others =
    ((text ≡ answer) × (answered ≡ 1 + others))
    ⊎ ((n : ℕ) × (text ≡ take n answer) × (answered ≡ others))

-- To each connection, in turn, there is one answer, or none, and then nothing is written over it. So
-- many answers were written whole.
abbrev pub AreKnownAnswers : List (List ℕ) → List (Option Duration) → List (Option (List ℕ))
    → List Exchange → ℕ → Type 0
AreKnownAnswers [] readings wrote xs answered = (wrote ≡ []) × (xs ≡ []) × (answered ≡ 0)
AreKnownAnswers (bytes ∷ more) readings wrote xs answered =
    (text : List ℕ) × (texts : List (Option (List ℕ))) × (wrote ≡ Some text ∷ texts)
    × (((text ≡ []) × AreKnownAnswers more (rest_of readings) texts xs answered)
    ⊎ ((x : Exchange) × (later : List Exchange) × (xs ≡ x ∷ later)
    × IsAnswerTo (moment_by (first_of readings)) bytes x × (others : ℕ)
    × IsWrittenOver text (response_text x.told) answered others
    × AreKnownAnswers more (rest_of readings) texts later others))

-- each is answered at its moment, and nothing else changes the office; under the premise these are the
-- answers of the model's run
pub record AnswersAllKnown {S : Type 0} (world : S → World) (Holds Sound : S → Type 0) (fails : Bool)
    (first last : S) (coming : List (List ℕ)) (readings : List (Option Duration))
    (wrote : List (Option (List ℕ))) (answered : ℕ) : Type 0 where
  pub exchanges : List Exchange
  pub answers : AreKnownAnswers coming readings wrote exchanges answered
  pub lead : Lead (AnswersOver world Holds Sound fails) first exchanges last
  pub model : Holds last → ExchangesAreOfModel (world first) (world last) (faultless exchanges)

abbrev pub KnownConnectionsAreAnswered : {S : Type 0} → (S → World) → (S → Type 0) → (S → Type 0)
    → Bool → Type 0
KnownConnectionsAreAnswered {S} world Holds Sound fails =
    (first last : S) (coming : List (List ℕ)) (left : Option (List (Option (List ℕ))))
    (readings : List (Option Duration)) (later : Option (List (Option Duration)))
    (wrote : List (Option (List ℕ))) (answered : ℕ)
    → ServesInTurn (AnswersOver world Holds Sound fails) (Some []) (length coming) answered
    (all_coming coming) left (Some readings) later (Some []) (Some wrote) first last
    → AnswersAllKnown world Holds Sound fails first last coming readings wrote answered
