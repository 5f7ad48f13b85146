-- The answer where the store or memory failed, as bytes.
use Rattle.std.proofs.Common.{◌≡◌, List, ℕ, refl}
use Rattle.std.specs.Prelude.{codes}
use Rattle.std.specs.Fmt.{digits}
use Rattle.serde_json.proofs.OnLiterals.{serde_json_on_literals}
use Rattle.reg_print.specs.Answer.{body_text}
use Rattle.reg_wire.specs.Response.{head_text, response_text, sent_as}
use Rattle.reg_wire.specs.Serving.{storage}

abbrev pub storage_text : List ℕ
storage_text =
    codes "HTTP/1.1 503 Service Unavailable\r\nContent-Type: application/json\r\nContent-Length: 19\r\nConnection: close\r\n\r\n{\"error\":\"storage\"}"

pub storage_is : storage_text ≡ response_text storage
unfolding body_text digits serde_json_on_literals head_text response_text
storage_is = refl

pub storage_sent : record { status = 503; body = 19 } ≡ sent_as storage
unfolding body_text digits serde_json_on_literals
storage_sent = refl
