-- What one exchange over HTTP does: a request is read, the office answers, the answer is written.
use Rattle.std.specs.Prelude.{◌≡◌, ◌≢◌, ◌<◌, ◌⊎◌, ℕ, List, [], ◌∷◌, length, take, Bool, Option, None, Result, Ok, Err}
use Rattle.std.specs.Io.KnownBytes.{Appends}
use Rattle.reg_core.specs.World.{World}
use Rattle.reg_keeper.specs.declared.keeper.Fault.{Fault}
use Rattle.reg_office.specs.Caller.{caller_of}
use Rattle.reg_print.specs.declared.answer.Answer.{Answer}
use Rattle.reg_print.specs.declared.answer.Answer.TheVariants as answer
use Rattle.reg_wire.specs.Exchange.{Call, GivesAnswer, answer_to, world_then}
use Rattle.reg_wire.specs.declared.wire_fault.WireFault.{WireFault}
use Rattle.reg_wire.specs.declared.wire_fault.WireFault.TheVariants as fault
use Rattle.reg_head.specs.Reading.{IsAsked, IsUnfinished}
use Rattle.reg_head.specs.Request.{Request, BytesAsk}
use Rattle.reg_head.specs.declared.malformed.Malformed.{Malformed}
use Rattle.reg_wire.specs.Response.{status, response_text}
use Rattle.reg_wire.specs.declared.response.Response.{Response}
use Rattle.reg_wire.specs.declared.response.Response.TheVariants as response

-- ---- What is answered

-- the call that a request is at a moment
abbrev pub call_at : ℕ → Request → Call
call_at moment request =
    record {
      moment = moment;
      token = request.token;
      method = request.method;
      path = request.path;
      body = request.body;
    }

-- the answer where the store or memory failed
abbrev pub storage : Response
storage = response.Answer answer.Storage

-- the answer to a call, and the world then; or storage, and the world unchanged
abbrev pub Answers : World → Call → Response → World → Type 0
Answers before call told after =
    ((told ≡ response.Answer (answer_to before call)) × (after ≡ world_then before call))
    ⊎ ((told ≡ storage) × (after ≡ before))

-- what is told of what the office gives: the answer, or storage at a fault
abbrev pub given_response : Result Answer Fault → Response
given_response (Ok a) = response.Answer a
given_response (Err fault) = storage

-- over the states of a keeper: what the office gives to the call is told
pub record AnswersOver {S : Type 0} (world : S → World) (Holds Sound : S → Type 0) (fails : Bool)
    (before : S) (call : Call) (told : Response) (after : S) : Type 0 where
  pub result : Result Answer Fault
  pub is_told : told ≡ given_response result
  pub gives : GivesAnswer world Holds Sound fails before call result after

-- what bytes ask at a moment is answered: a request as its call is, other bytes by what is wrong
-- with them, with nothing looked at and nothing changed
abbrev pub Responds : {S : Type 0} → (S → Call → Response → S → Type 0) → S → ℕ
    → Result Request Malformed → Response → S → Type 0
Responds Serves before moment (Ok request) told after =
    Serves before (call_at moment request) told after
Responds Serves before moment (Err why) told after =
    (told ≡ response.Malformed why) × (after ≡ before)

-- ---- Requests in turn

-- the bytes that came at a moment, what they ask, and what was answered
pub record Exchange : Type 0 where
  pub moment : ℕ
  pub bytes : List ℕ
  pub asked : Result Request Malformed
  pub told : Response

-- the bytes are answered in turn
abbrev pub Lead : {S : Type 0} → (S → Call → Response → S → Type 0) → S → List Exchange → S → Type 0
Lead Serves before [] after = after ≡ before
Lead {S} Serves before (x ∷ xs) after =
    (now : S) × BytesAsk x.bytes x.asked × Responds Serves before x.moment x.asked x.told now
    × Lead Serves now xs after

-- ---- One exchange. `unread` and `left` are what is to be read before and after, `had` and `has`
-- what was written.

-- what was read was answered so
pub record IsAnswered {S : Type 0} (Serves : S → Call → Response → S → Type 0) (moment : ℕ)
    (before after : S) (unread left : Option (List ℕ)) (told : Response) : Type 0 where
  pub asked : Result Request Malformed
  pub is_asked : IsAsked unread left asked
  pub responds : Responds Serves before moment asked told after

-- exactly the answer was written, and its status is given
pub record IsServed {S : Type 0} (Serves : S → Call → Response → S → Type 0) (moment : ℕ)
    (before after : S) (unread left had has : Option (List ℕ)) (given : ℕ) : Type 0 where
  pub told : Response
  pub answered : IsAnswered Serves moment before after unread left told
  pub wrote : Appends had has (response_text told)
  pub status : given ≡ status told

-- exactly the first n bytes of the answer were written, and there are more
pub record IsCutShort {S : Type 0} (Serves : S → Call → Response → S → Type 0) (moment : ℕ)
    (before after : S) (unread left had has : Option (List ℕ)) (n : ℕ) : Type 0 where
  pub told : Response
  pub answered : IsAnswered Serves moment before after unread left told
  pub fewer : n < length (response_text told)
  pub wrote : Appends had has (take n (response_text told))

-- nothing was read to its end, so nothing is asked, and nothing has changed
pub record IsUnasked {S : Type 0} (before after : S) (unread left : Option (List ℕ)) : Type 0
  where
    pub unfinished : IsUnfinished unread left
    pub same : after ≡ before

-- what was read was answered, but not by storage; or nothing has changed
abbrev pub MayBeAnswered : {S : Type 0} → (S → Call → Response → S → Type 0) → ℕ → S → S
    → Option (List ℕ) → Option (List ℕ) → Type 0
MayBeAnswered Serves moment before after unread left =
    ((told : Response) × IsAnswered Serves moment before after unread left told × (told ≢ storage))
    ⊎ (after ≡ before)

-- Why nothing, or not all of the answer, was written.
abbrev pub FailsBy : {S : Type 0} → (S → Call → Response → S → Type 0) → ℕ → WireFault → S → S
    → Option (List ℕ) → Option (List ℕ) → Option (List ℕ) → Option (List ℕ) → Type 0
FailsBy Serves moment fault.Read before after unread left had has =
    IsUnasked before after unread left × Appends had has []
FailsBy Serves moment (fault.Write n) before after unread left had has =
    IsCutShort Serves moment before after unread left had has n
FailsBy Serves moment fault.Memory before after unread left had has =
    MayBeAnswered Serves moment before after unread left × Appends had has []

-- ---- Who asks

-- whose request it is, by the digest of its token; nobody's where there is none
abbrev pub asker : Result Request Malformed → Option (List ℕ)
asker (Ok request) = caller_of request.token
asker (Err why) = None
