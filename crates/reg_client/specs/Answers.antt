-- The bytes of an answer, and the answer that they are.
use Rattle.std.specs.Prelude.{◌++◌, ℕ, List, length, codes}
use Rattle.std.specs.Fmt.{decimal}
use Rattle.reg_wire.specs.Response.{field_line, head_text, line_end, media_type}
use Rattle.reg_print.specs.declared.answer.Format.{Format}

-- the bytes of an answer of an office with this status, this format and this body
abbrev pub answer_text : ℕ → Format → List ℕ → List ℕ
answer_text status format body = head_text status (media_type format) (length body) ++ body

-- the last lines of the head of an answer, whose body has so many bytes
abbrev pub end_of_head : ℕ → List ℕ
end_of_head count =
    field_line (codes "Content-Length") (decimal count)
    ++ (field_line (codes "Connection") (codes "close") ++ line_end)
