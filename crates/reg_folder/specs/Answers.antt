-- What is answered to a request by the folder of a site. `Finds` says what was found at a path.
use Rattle.std.specs.Prelude.{◌≡◌, ℕ, List, length, Option, None, Some, option_map, Result, Ok, Err}
use Rattle.reg_core.specs.declared.wire_refusal.WireRefusal.{WireRefusal}
use Rattle.reg_core.specs.declared.wire_refusal.WireRefusal.TheVariants.{Route}
use Rattle.reg_head.specs.Request.{Request}
use Rattle.reg_head.specs.declared.malformed.Malformed.{Malformed}
use Rattle.reg_http.specs.declared.front.FrontAnswer.{FrontAnswer}
use Rattle.reg_print.specs.Answer.{body_text, status_of}
use Rattle.reg_print.specs.declared.answer.Answer.TheVariants as answer
use Rattle.reg_wire.specs.Response.{reply_text}
use Rattle.reg_folder.specs.Head.{head_text}
use Rattle.reg_folder.specs.Path.{SiteAim, aim_at}
use Rattle.reg_folder.specs.declared.files.SiteFile.{SiteFile}

-- the answer is the office's own to what is refused so, to the byte, and the log shows no path
pub record IsRefusedBelow {C : Type 0} (asks : List ℕ) (why : WireRefusal) (a : FrontAnswer C) : Type 0 where
  pub bytes : a.head.items ≡ reply_text (answer.Wire why)
  pub status : a.status ≡ status_of (answer.Wire why)
  pub size : a.length ≡ length (body_text (answer.Wire why))
  pub method : a.method.items ≡ asks
  pub path : a.path ≡ None
  pub content : a.content ≡ None

-- the answer has the file at a path, and the log shows the path that was asked for
pub record IsGiven {C : Type 0} (asks asked at : List ℕ) (file : SiteFile C) (a : FrontAnswer C) : Type 0
  where
    pub bytes : a.head.items ≡ head_text at file.length
    pub status : a.status ≡ 200
    pub size : a.length ≡ file.length
    pub method : a.method.items ≡ asks
    pub path : option_map (λ v. v.items) a.path ≡ Some asked
    pub content : a.content ≡ Some file.content

-- what is answered to this method and this path where this was found at a path in the folder
abbrev pub AnswersFound : {C : Type 0} → List ℕ → List ℕ → List ℕ → Option (SiteFile C) → FrontAnswer C
    → Type 0
AnswersFound method asked at None a = IsRefusedBelow method Route a
AnswersFound method asked at (Some file) a = IsGiven method asked at file a

module _ {F C : Type 0} (Finds : F → F → List ℕ → Option (SiteFile C) → Type 0) (old new : F) where
  -- what is answered to this method and this path, which ask this of the site
  abbrev pub AnswersAim : List ℕ → List ℕ → SiteAim → Option (FrontAnswer C) → Type 0
  AnswersAim method asked None given = (given ≡ None) × (new ≡ old)
  AnswersAim method asked (Some aim) None = ⊥
  AnswersAim method asked (Some (Err why)) (Some a) = IsRefusedBelow method why a × (new ≡ old)
  AnswersAim method asked (Some (Ok at)) (Some a) =
      (found : Option (SiteFile C)) × Finds old new at found × AnswersFound method asked at found a

  -- what is answered to a request: its token is not looked at
  abbrev pub AnswersSite : Request → Option (FrontAnswer C) → Type 0
  AnswersSite r given = AnswersAim r.method r.path (aim_at r.method r.body r.path) given

  -- what is answered to what bytes ask; those that are no request are the office's
  abbrev pub AnswersAsked : Result Request Malformed → Option (FrontAnswer C) → Type 0
  AnswersAsked (Ok request) given = AnswersSite request given
  AnswersAsked (Err why) given = (given ≡ None) × (new ≡ old)
