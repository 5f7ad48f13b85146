-- Answers as HTTP/1.1 writes them (RFC 9112 sections 2, 4, 5 and 6).
use Rattle.std.specs.Prelude.{ℕ, List, [], ◌∷◌, ◌++◌, ◌==◌, length, codes, if◌then◌else◌}
use Rattle.std.specs.Fmt.{decimal}
use Rattle.reg_print.specs.Answer.{answer_body, body_text, status_of}
use Rattle.reg_print.specs.Body.{format_of}
use Rattle.reg_print.specs.declared.answer.Answer.{Answer}
use Rattle.reg_print.specs.declared.answer.Format.{Format}
use Rattle.reg_print.specs.declared.answer.Format.TheVariants as formats
use Rattle.reg_head.specs.declared.malformed.Malformed.{Malformed}
use Rattle.reg_head.specs.declared.malformed.Malformed.TheVariants as malformed
use Rattle.reg_wire.specs.declared.log.Sent.{Sent}
use Rattle.reg_wire.specs.declared.response.Response.{Response}
use Rattle.reg_wire.specs.declared.response.Response.TheVariants as response

-- ---- Status, media type and body

-- the status and the name of what is wrong with the bytes of a request
abbrev pub malformed_status : Malformed → ℕ
malformed_status malformed.Head = 400
malformed_status malformed.Encoding = 501
malformed_status malformed.Length = 400
malformed_status malformed.Large = 413
malformed_status malformed.Short = 400

abbrev pub malformed_body : Malformed → List ℕ
malformed_body malformed.Head = codes "{\"error\":\"head\"}"
malformed_body malformed.Encoding = codes "{\"error\":\"encoding\"}"
malformed_body malformed.Length = codes "{\"error\":\"length\"}"
malformed_body malformed.Large = codes "{\"error\":\"large\"}"
malformed_body malformed.Short = codes "{\"error\":\"short\"}"

abbrev pub status : Response → ℕ
status (response.Answer answer) = status_of answer
status (response.Malformed why) = malformed_status why

-- the media type of each format
abbrev pub media_type : Format → List ℕ
media_type formats.Json = codes "application/json"
media_type formats.Csv = codes "text/csv"

abbrev pub format : Response → Format
format (response.Answer answer) = format_of (answer_body answer)
format (response.Malformed why) = formats.Json

abbrev pub body : Response → List ℕ
body (response.Answer answer) = body_text answer
body (response.Malformed why) = malformed_body why

-- what is told of an answer that was written whole: its status, and how many bytes its body has
abbrev pub sent_as : Response → Sent
sent_as told = record { status = status told; body = length (body told) }

-- ---- The bytes

-- the phrase of a status (RFC 9110 section 15); empty for one that no answer has
abbrev pub reason : ℕ → List ℕ
reason n =
    (if n == 200 then codes "OK" else (
    if n == 201 then codes "Created" else (
    if n == 400 then codes "Bad Request" else (
    if n == 401 then codes "Unauthorized" else (
    if n == 403 then codes "Forbidden" else (
    if n == 404 then codes "Not Found" else (
    if n == 405 then codes "Method Not Allowed" else (
    if n == 409 then codes "Conflict" else (
    if n == 413 then codes "Payload Too Large" else (
    if n == 422 then codes "Unprocessable Entity" else (
    if n == 501 then codes "Not Implemented" else (
    if n == 503 then codes "Service Unavailable" else []))))))))))))

abbrev pub line_end : List ℕ
line_end = 13 ∷ 10 ∷ []

abbrev pub status_line : ℕ → List ℕ
status_line n = codes "HTTP/1.1 " ++ decimal n ++ codes " " ++ reason n ++ line_end

abbrev pub field_line : List ℕ → List ℕ → List ℕ
field_line name value = name ++ codes ": " ++ value ++ line_end

-- the head of an answer, with the length of its body
unfoldable pub head_text : ℕ → List ℕ → ℕ → List ℕ
head_text n media count =
    status_line n
    ++ field_line (codes "Content-Type") media
    ++ field_line (codes "Content-Length") (decimal count)
    ++ field_line (codes "Connection") (codes "close")
    ++ line_end

-- the bytes of an answer: its head, and its body
unfoldable pub response_text : Response → List ℕ
response_text r =
    head_text (status r) (media_type (format r)) (length (body r)) ++ body r

-- the bytes of an answer to what was read
abbrev pub reply_text : Answer → List ℕ
reply_text answer = response_text (response.Answer answer)
