-- What jobs ask of offices in files, and of those that are served.
use Rattle.std.proofs.Common.{◌≡◌, List, ℕ, Bool, false, Option, Some, None, Result, Ok, Err, refl, sym, ◌∙◌, subst, inl}
use Rattle.std.specs.Option.{option_copied, option_map}
use Rattle.std.specs.Prelude.{⊤, OnOk}
use Rattle.std.specs.String.{string_bytes}
use Rattle.reg_jobs.specs.Asking.{IsAddress}
use Rattle.reg_parse.specs.Command.{asked}
use Rattle.reg_program.specs.Inputs.{IsTokenOf}
use Rattle.reg_program.specs.Performing.{AnswersQuestion, Carries, CarriesThen, IsDefinedBy, IsListedBy, IsRequestedBy, TellsFrom, ToldOfServed, Tries, after_reading}
use Rattle.reg_program.specs.Publishing.{IsPortOf}
use Rattle.reg_program.specs.Requests.{IsAnsweredAt, IsDefinition, IsGivenTo, IsListing, IsRequestOf, IsWorded, form_by, reads_input, sent_text, source_by, token_bytes}
use Rattle.reg_program.specs.Served.{PrintsAnswer, PrintsAnswerOf}
use Rattle.reg_program.specs.Tasks.{Streams}
use Rattle.reg_program.specs.declared.asking.AnswerForm.TheVariants.{Body, Line}
use Rattle.reg_program.specs.declared.asking.Question.{Question}
use Rattle.reg_program.specs.declared.faults.Undone.{Undone}
use Rattle.reg_program.specs.declared.requests.JobQuestion.{JobQuestion}
use Rattle.reg_program.specs.declared.requests.JobQuestion.TheVariants.{Request, Definition, Listing}
use Rattle.reg_program.specs.declared.requests.JobRequest.{JobRequest}
use Rattle.reg_program.specs.declared.tasks.Task.{Task}
use Rattle.reg_program.specs.declared.tasks.Task.TheVariants.{Ask}
use Rattle.reg_program.proofs.Carried.{file_tells, tried}

-- the one that is served was to do it
pub served_tells : (Untouched : Type 0) (source : List ℕ) (Printed : Type 0)
    (Does : Result ⊤ Undone → Type 0) (done : Result ⊤ Undone) → Untouched → IsAddress source
    → OnOk done Printed → Tries Untouched (TellsFrom Untouched source Printed Does) done
served_tells Untouched source Printed Does (Ok u) same at prints =
    ((λ _. (same, prints)), (λ not. absurd (not at)))
served_tells Untouched source Printed Does (Err why) same at prints = inl same

-- what it printed it was given at its address
pub at_port : (Answered : ToldOfServed) (source : List ℕ) (Asks : JobRequest → Type 0) (port : ℕ)
    (Of : List ℕ → Type 0) (done : Result ⊤ Undone) → IsPortOf source port
    → OnOk done ((bytes : List ℕ) × IsGivenTo (Answered port) Asks bytes × Of bytes)
    → OnOk done ((bytes : List ℕ) × IsAnsweredAt Answered source Asks bytes × Of bytes)
at_port Answered source Asks port Of (Ok u) at (bytes, given, of) =
    (bytes, record { port = port; at = at; given = given }, of)
at_port Answered source Asks port Of (Err why) at prints = tt

-- by an answer to one request
given_at : (Answered : ToldOfServed) (source : List ℕ) (Asks : JobRequest → Type 0) (port : ℕ)
    (request : JobRequest) (Of : List ℕ → Type 0) (done : Result ⊤ Undone) → IsPortOf source port
    → Asks request
    → OnOk done ((bytes : List ℕ) × Answered port (sent_text request) bytes × Of bytes)
    → OnOk done ((bytes : List ℕ) × IsAnsweredAt Answered source Asks bytes × Of bytes)
given_at Answered source Asks port request Of (Ok u) at asks (bytes, answered, of) =
    (bytes, record { port = port; at = at; given = (request, asks, answered) }, of)
given_at Answered source Asks port request Of (Err why) at asks prints = tt

module _ (Answered : ToldOfServed) (Carried : List ℕ → Task → Streams → Result ⊤ Undone → Type 0)
    (Untouched : Type 0) where
  -- one that is served printed its answer
  pub served_answers : (question : JobQuestion) (io : Streams) (port : ℕ) (request : JobRequest)
      (done : Result ⊤ Undone) → Untouched → IsAddress (source_by question)
      → IsPortOf (source_by question) port → IsRequestOf question io.unread request
      → OnOk done (PrintsAnswer (Answered port (sent_text request)) (form_by question) io.had io.has)
      → Tries Untouched (AnswersQuestion Answered question Carried Untouched io) done
  served_answers (Request order) io port request done same address at is prints =
      let source = string_bytes order.now.source in
      let Of : List ℕ → Type 0 = λ bytes. PrintsAnswerOf bytes Body io.had io.has in
      let Asks : JobRequest → Type 0 = IsWorded order.now io.unread in
      served_tells Untouched source
      (PrintsAnswer (IsAnsweredAt Answered source Asks) Body io.had io.has)
      (CarriesThen Carried source (IsRequestedBy order.now io.unread) io) done same address
      (given_at Answered source Asks port request Of done at is prints)
  served_answers (Definition order) io port request done same address at is prints =
      let source = string_bytes order.now.source in
      let Of : List ℕ → Type 0 = λ bytes. PrintsAnswerOf bytes Line io.had io.has in
      let Asks : JobRequest → Type 0 = IsDefinition order.now in
      served_tells Untouched source
      (PrintsAnswer (IsAnsweredAt Answered source Asks) Line io.had io.has)
      (Carries Carried source (IsDefinedBy order.now) io) done same address
      (given_at Answered source Asks port request Of done at is prints)
  served_answers (Listing source registry) io port request done same address at is prints =
      let Of : List ℕ → Type 0 = λ bytes. PrintsAnswerOf bytes Body io.had io.has in
      let Asks : JobRequest → Type 0 = IsListing (option_map string_bytes registry.now) in
      served_tells Untouched source.now
      (PrintsAnswer (IsAnsweredAt Answered source.now Asks) Body io.had io.has)
      (Carries Carried source.now (IsListedBy (option_map string_bytes registry.now)) io) done same
      address
      (given_at Answered source.now Asks port request Of done at is prints)

  -- one in a file was asked
  pub file_answers : (question : JobQuestion) (io : Streams) (unread : Option (List ℕ))
      (request : JobRequest) (given : Question) (done : Result ⊤ Undone)
      → (IsAddress (source_by question) → ⊥) → IsRequestOf question io.unread request
      → (reads_input question ≡ false → unread ≡ io.unread)
      → Carried (source_by question) (Ask given) (after_reading unread io) done
      → option_copied given.token ≡ token_bytes request
      → asked (string_bytes request.method) (string_bytes request.path) request.body.items
      ≡ Ok given.command → given.form ≡ form_by question
      → Tries Untouched (AnswersQuestion Answered question Carried Untouched io) done
  file_answers (Request order) io unread request given done not is same carried who spelled form =
      let source = string_bytes order.now.source in
      let Does : Result ⊤ Undone → Type 0 =
      CarriesThen Carried source (IsRequestedBy order.now io.unread) io in
      let token = subst (IsTokenOf (option_map string_bytes order.now.token)) (sym who) is.token in
      let method = sym is.method in
      let path = sym is.path in
      let body = request.body.items in
      let command = (λ i. asked (method i) (path i) body) ∙ spelled in
      file_tells Untouched source
      (PrintsAnswer (IsAnsweredAt Answered source (IsWorded order.now io.unread)) Body io.had io.has)
      Does done not
      (tried Untouched Does done
      (unread, (Ask given, (form, token, body, is.body, command), carried)))
  file_answers (Definition order) io unread request given done not is same carried who spelled form =
      let source = string_bytes order.now.source in
      let Does : Result ⊤ Undone → Type 0 = Carries Carried source (IsDefinedBy order.now) io in
      let P : Option (List ℕ) → Type 0 = λ left.
      Carried source (Ask given) (after_reading left io) done in
      let token = subst (IsTokenOf (Some (string_bytes order.now.clerk))) (sym who) is.token in
      let method = sym is.method in
      let path = sym is.path in
      let body = request.body.items in
      let command = (λ i. asked (method i) (path i) body) ∙ spelled in
      file_tells Untouched source
      (PrintsAnswer (IsAnsweredAt Answered source (IsDefinition order.now)) Line io.had io.has) Does done
      not
      (tried Untouched Does done
      (Ask given, (form, token, body, command), subst P (same refl) carried))
  file_answers (Listing source registry) io unread request given done not is same carried who spelled
      form =
      let Does : Result ⊤ Undone → Type 0 =
      Carries Carried source.now (IsListedBy (option_map string_bytes registry.now)) io in
      let P : Option (List ℕ) → Type 0 = λ left.
      Carried source.now (Ask given) (after_reading left io) done in
      let token = subst (IsTokenOf None) (sym who) is.token in
      let method = sym is.method in
      let path = sym is.path in
      let body = sym is.body in
      let command = (λ i. asked (method i) (path i) (body i)) ∙ spelled in
      let Asks : JobRequest → Type 0 = IsListing (option_map string_bytes registry.now) in
      file_tells Untouched source.now
      (PrintsAnswer (IsAnsweredAt Answered source.now Asks) Body io.had io.has) Does done not
      (tried Untouched Does done
      (Ask given, (form, token, command), subst P (same refl) carried))
