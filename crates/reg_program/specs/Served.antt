-- The jobs that are one command, of an office that is served: what is sent, and what is printed.
use Rattle.std.specs.Prelude.{◌≡◌, ◌==◌, ◌||◌, ◌++◌, ⊤, ℕ, Bool, true, false, List, [], Option, Some, None, codes, length}
use Rattle.std.specs.Fmt.{decimal}
use Rattle.std.specs.Io.KnownBytes.{Appends}
use Rattle.reg_print.specs.declared.answer.Format.{Format}
use Rattle.reg_client.specs.Answers.{answer_text}
use Rattle.reg_program.specs.Asking.{after_body}
use Rattle.reg_program.specs.Undone.{line_by}
use Rattle.reg_program.specs.declared.asking.AnswerForm.{AnswerForm}
use Rattle.reg_program.specs.declared.asking.AnswerForm.TheVariants.{Body, Line}
use Rattle.reg_program.specs.declared.faults.Undone.{Undone}
use Rattle.reg_program.specs.declared.faults.Undone.TheVariants.{Fault, Explained, Refused}

-- ---- What is sent

-- the line of a head that has a token (RFC 6750 section 2.1)
abbrev pub token_line : Option (List ℕ) → List ℕ
token_line None = []
token_line (Some token) = codes "Authorization: Bearer " ++ (token ++ codes "\r\n")

-- the head of a request with this line of a token, whose body has so many bytes
abbrev pub request_head : List ℕ → List ℕ → List ℕ → ℕ → List ℕ
request_head method path authorization count =
    method ++ (codes " " ++ (path ++ (codes " HTTP/1.1\r\nHost: 127.0.0.1\r\n" ++ (authorization
    ++ (codes "Content-Length: " ++ (decimal count ++ codes "\r\nConnection: close\r\n\r\n"))))))

-- the bytes of a request: its token stands in the head alone
abbrev pub request_text : List ℕ → List ℕ → Option (List ℕ) → List ℕ → List ℕ
request_text method path token body =
    request_head method path (token_line token) (length body) ++ body

-- ---- What is answered

-- the statuses with which an office accepts a command
abbrev pub is_accepting : ℕ → Bool
is_accepting status = status == 200 || status == 201

-- the body of an answer, or its status and its body
abbrev pub told_line : AnswerForm → ℕ → List ℕ → List ℕ
told_line Body status body = body
told_line Line status body = line_by status body

-- what is printed of an answer, as `printed` says it of the answer of an office in a file
abbrev pub told : AnswerForm → ℕ → Format → List ℕ → List ℕ
told form status format body = told_line form status body ++ after_body format

-- the bytes are an answer of an office with which it accepts a command, and that is printed
pub record PrintsAnswerOf (bytes : List ℕ) (form : AnswerForm) (had has : Option (List ℕ)) : Type 0 where
  pub status : ℕ
  pub format : Format
  pub body : List ℕ
  pub is : bytes ≡ answer_text status format body
  pub accepting : is_accepting status ≡ true
  pub wrote : Appends had has (told form status format body)

-- such an answer is printed that is given so
abbrev pub PrintsAnswer : (List ℕ → Type 0) → AnswerForm → Option (List ℕ) → Option (List ℕ) → Type 0
PrintsAnswer IsGiven form had has =
    (bytes : List ℕ) × IsGiven bytes × PrintsAnswerOf bytes form had has

-- the bytes are any other answer of an office
pub record IsRefusal (bytes line : List ℕ) : Type 0 where
  pub status : ℕ
  pub format : Format
  pub body : List ℕ
  pub is : bytes ≡ answer_text status format body
  pub refusing : is_accepting status ≡ false
  pub says : line ≡ line_by status body

-- why it is not printed: a line says its status and its body; or there was a fault
abbrev pub IsUnprintedOf : List ℕ → Undone → Type 0
IsUnprintedOf bytes (Refused line) = IsRefusal bytes line.items
IsUnprintedOf bytes (Fault failure) = ⊤
IsUnprintedOf bytes (Explained failure why) = ⊥
