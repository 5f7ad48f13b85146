-- The requests of the jobs that have an office answer one.
use Rattle.std.specs.Prelude.{◌≡◌, ℕ, Bool, true, false, List, [], Option, Some, None, codes, option_and_then, option_map}
use Rattle.std.specs.String.{string_bytes}
use Rattle.reg_core.specs.Names.{is_token}
use Rattle.reg_ranges.specs.Texts.{read_text}
use Rattle.reg_jobs.specs.declared.jobs.Definition.{Definition as OfRegistry}
use Rattle.reg_jobs.specs.declared.jobs.OfficeRequest.{OfficeRequest}
use Rattle.reg_program.specs.Asking.{definition_at, listing_at}
use Rattle.reg_program.specs.Inputs.{AreKnown, IsTokenOf, body_in}
use Rattle.reg_program.specs.Publishing.{IsPortOf}
use Rattle.reg_program.specs.Served.{request_text}
use Rattle.reg_program.specs.declared.asking.AnswerForm.{AnswerForm}
use Rattle.reg_program.specs.declared.asking.AnswerForm.TheVariants.{Body, Line}
use Rattle.reg_program.specs.declared.requests.JobQuestion.{JobQuestion}
use Rattle.reg_program.specs.declared.requests.JobQuestion.TheVariants.{Request, Definition, Listing}
use Rattle.reg_program.specs.declared.requests.JobRequest.{JobRequest}

-- how the answer to a question is printed
abbrev pub form_by : JobQuestion → AnswerForm
form_by (Request order) = Body
form_by (Definition order) = Line
form_by (Listing source registry) = Body

-- the path of the file of the office that is asked, or the address at which it is served
abbrev pub source_by : JobQuestion → List ℕ
source_by (Request order) = string_bytes order.now.source
source_by (Definition order) = string_bytes order.now.source
source_by (Listing source registry) = source.now

-- whether standard input is read for it
abbrev pub reads_input : JobQuestion → Bool
reads_input (Request order) = true
reads_input (Definition order) = false
reads_input (Listing source registry) = false

-- the token of a request
abbrev pub token_bytes : JobRequest → Option (List ℕ)
token_bytes request = option_map (λ token. token.items) request.token

-- the words of a job say this request, where so much stands on standard input
pub record IsWorded (order : OfficeRequest) (input : Option (List ℕ)) (request : JobRequest) : Type 0
  where
    pub token : IsTokenOf (option_map string_bytes order.token) (token_bytes request)
    pub method : string_bytes request.method ≡ string_bytes order.method
    pub path : string_bytes request.path ≡ string_bytes order.path
    pub body : AreKnown (body_in (option_map string_bytes order.body) input) request.body.items

-- it defines a registry from some range file
pub record IsDefinition (order : OfRegistry) (request : JobRequest) : Type 0 where
  pub token : IsTokenOf (Some (string_bytes order.clerk)) (token_bytes request)
  pub method : string_bytes request.method ≡ codes "PUT"
  pub path : string_bytes request.path
      ≡ definition_at (string_bytes order.name) (string_bytes order.max)

-- it has no body, and just these other parts
pub record IsBodiless (known : Option (List ℕ)) (word place : List ℕ) (request : JobRequest) : Type 0
  where
    pub token : token_bytes request ≡ known
    pub method : string_bytes request.method ≡ word
    pub path : string_bytes request.path ≡ place
    pub body : request.body.items ≡ []

-- the same of the token that a word says
abbrev pub IsBodilessBy : Option (List ℕ) → List ℕ → List ℕ → JobRequest → Type 0
IsBodilessBy word method path request =
    (token : Option (List ℕ)) × IsTokenOf word token × IsBodiless token method path request

-- it lists a registry or, without one, the blocks, for anybody
abbrev pub IsListing : Option (List ℕ) → JobRequest → Type 0
IsListing registry request = IsBodiless None (codes "GET") (listing_at registry) request

-- it asks for what a job asks, where so much stands on standard input
abbrev pub IsRequestOf : JobQuestion → Option (List ℕ) → JobRequest → Type 0
IsRequestOf (Request order) input request = IsWorded order.now input request
IsRequestOf (Definition order) input request = IsDefinition order.now request
IsRequestOf (Listing source registry) input request =
    IsListing (option_map string_bytes registry.now) request

-- ---- What is sent, and answered

-- the bytes of a request: its token stands in the head alone, if it has the form of one
abbrev pub sent_text : JobRequest → List ℕ
sent_text request =
    request_text (string_bytes request.method) (string_bytes request.path)
    (option_and_then (read_text is_token) (token_bytes request)) request.body.items

-- an answer is given to a request of this kind
abbrev pub IsGivenTo : (List ℕ → List ℕ → Type 0) → (JobRequest → Type 0) → List ℕ → Type 0
IsGivenTo Answered Asks answer =
    (request : JobRequest) × Asks request × Answered (sent_text request) answer

-- the office that is served at an address gives an answer to a request of this kind
pub record IsAnsweredAt (Answered : ℕ → List ℕ → List ℕ → Type 0) (source : List ℕ)
    (Asks : JobRequest → Type 0) (answer : List ℕ) : Type 0 where
  pub port : ℕ
  pub at : IsPortOf source port
  pub given : IsGivenTo (Answered port) Asks answer
