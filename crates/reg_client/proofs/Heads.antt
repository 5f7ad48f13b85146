-- Answers of an office, put together from the parts that were read.
use Rattle.std.proofs.Common.{◌≡◌, ◌++◌, ◌∙◌, ℕ, List, codes, length, ap, append_assoc}
use Rattle.std.specs.Prelude.{Some}
use Rattle.std.specs.Fmt.{decimal}
use Rattle.reg_wire.specs.Response.{field_line, head_text, line_end, media_type, status_line}
use Rattle.reg_print.specs.declared.answer.Format.{Format}
use Rattle.reg_ranges.specs.Numbers.{read_number}
use Rattle.reg_ranges.proofs.Numerals.{reads_decimals}
use Rattle.reg_client.specs.Answers.{answer_text, end_of_head}

regroup : (a b c d : List ℕ) → a ++ (b ++ (c ++ d)) ≡ ((a ++ b) ++ c) ++ d
regroup a b c d = simp append_assoc

regroup_all : (a b c d e f : List ℕ)
    → a ++ (b ++ ((c ++ (d ++ e)) ++ f)) ≡ ((((a ++ b) ++ c) ++ d) ++ e) ++ f
regroup_all a b c d e f = simp append_assoc

-- digits that say a number are its decimal text
pub digits_are : (digits : List ℕ) (number : ℕ) → read_number digits ≡ Some number
    → digits ≡ decimal number
digits_are digits number is = ((reads_decimals number digits).0 is).1

-- the line of the format
pub format_joined : (format : Format) (text media first second rest : List ℕ)
    → text ≡ codes "Content-Type: " ++ first → first ≡ media ++ second → media ≡ media_type format
    → second ≡ line_end ++ rest
    → text ≡ field_line (codes "Content-Type") (media_type format) ++ rest
format_joined format text media first second rest a b c d =
    a ∙ ap (λ t. codes "Content-Type: " ++ t) (b ∙ (λ i. c i ++ d i)) ∙ simp append_assoc

-- the last lines, and the body
pub end_joined : (text digits first second body : List ℕ)
    → text ≡ codes "Content-Length: " ++ first → first ≡ digits ++ second
    → digits ≡ decimal (length body)
    → second ≡ codes "\r\nConnection: close\r\n\r\n" ++ body
    → text ≡ end_of_head (length body) ++ body
end_joined text digits first second body a b c d =
    let last = field_line (codes "Connection") (codes "close") ++ line_end in
    a
    ∙ ap (λ t. codes "Content-Length: " ++ t)
    (b ∙ (λ i. c i ++ d i) ∙ regroup (decimal (length body)) line_end last body)

-- all of them
pub answer_joined : (status : ℕ) (format : Format) (answer first second body : List ℕ)
    → answer ≡ status_line status ++ first
    → first ≡ field_line (codes "Content-Type") (media_type format) ++ second
    → second ≡ end_of_head (length body) ++ body
    → answer ≡ answer_text status format body
unfolding head_text
answer_joined status format answer first second body a b c =
    a
    ∙ ap (λ t. status_line status ++ t)
    (b ∙ ap (λ t. field_line (codes "Content-Type") (media_type format) ++ t) c)
    ∙ regroup_all (status_line status) (field_line (codes "Content-Type") (media_type format))
    (field_line (codes "Content-Length") (decimal (length body)))
    (field_line (codes "Connection") (codes "close")) line_end body
