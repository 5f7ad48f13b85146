-- The answers to lines, as bytes.
use Rattle.std.proofs.Common.{◌≡◌, ◌≢◌, ℕ, ◌/◌, ◌%◌, ◌<◌, zero, suc, List, [], ◌∷◌, ◌++◌, map, true, false, refl, sym, ap, ◌∙◌, arith, lit<}
use Rattle.std.proofs.lemmas.Bool.{false≢true}
use Rattle.std.proofs.lemmas.Bool.Decides.{nat_tests}
use Rattle.std.specs.Prelude.{◌==◌, cond}
use Rattle.std.specs.Fmt.{decimal, digits, digits_onto, digit_glyph}
use Rattle.std.specs.Str.{bytes_eq}
use Rattle.serde_json.proofs.OnLiterals.{serde_json_on_literals}
use Rattle.reg_core.specs.declared.refusal.Refusal.{Refusal}
use Rattle.reg_core.specs.declared.refusal.Refusal.TheVariants as no
use Rattle.reg_core.specs.declared.reply.Reply.{Reply}
use Rattle.reg_core.specs.declared.reply.Reply.TheVariants.{Accepted, Refused}
use Rattle.reg_core.specs.declared.told.Told.{Told}
use Rattle.reg_core.specs.declared.told.Told.TheVariants.{Made}
use Rattle.reg_print.specs.Answer.{body_text, status_of}
use Rattle.reg_wire.specs.Exchange.{IsNotStorage}
use Rattle.reg_wire.specs.Script.Lines.{IsOneLine, refusal, storage}
use Rattle.reg_wire.specs.Script.Answers.{answer_line, tab_of}
use Rattle.reg_print.specs.declared.answer.Answer.{Answer}
use Rattle.reg_print.specs.declared.answer.Answer.TheVariants as answer
use Rattle.reg_core.specs.declared.wire_refusal.WireRefusal.{WireRefusal}
use Rattle.reg_core.specs.declared.wire_refusal.WireRefusal.TheVariants as wire

pub refusal_is : refusal ≡ answer_line (answer.Wire wire.Line)
unfolding body_text digits serde_json_on_literals
refusal_is = refl

pub storage_is : storage ≡ answer_line answer.Storage
unfolding body_text digits serde_json_on_literals
storage_is = refl

pub refusal_is_another : bytes_eq refusal storage ≡ false
refusal_is_another = refl

refused_is_another : (why : Refusal)
    → bytes_eq (answer_line (answer.Reply (Refused why))) storage ≡ false
unfolding body_text digits serde_json_on_literals
refused_is_another no.Clock = refl
refused_is_another why = refl

told_is_another : (c : Told)
    → bytes_eq (answer_line (answer.Reply (Accepted c))) storage ≡ false
unfolding digits
told_is_another (Made request) = refl
told_is_another told = refl

pub reply_is_another : (r : Reply) → bytes_eq (answer_line (answer.Reply r)) storage ≡ false
reply_is_another (Accepted told) = told_is_another told
reply_is_another (Refused why) = refused_is_another why

pub wire_is_another : (why : WireRefusal) → bytes_eq (answer_line (answer.Wire why)) storage ≡ false
unfolding digits
wire_is_another wire.Line = refl
wire_is_another why = refl

-- ---- An answer has no line feed

both_lines : (xs ys : List ℕ) → IsOneLine xs → IsOneLine ys → IsOneLine (xs ++ ys)
both_lines [] ys h k = k
both_lines (x ∷ xs) ys h k = (h.0, both_lines xs ys h.1 k)

glyph_is_no_feed : (d : ℕ) → digit_glyph false d ≢ 10
glyph_is_no_feed d = grind (arith, nat_tests)

digits_line : (k n : ℕ) (more : List ℕ) → IsOneLine more → IsOneLine (digits_onto k 10 false n more)
digits_line zero n more h = h
digits_line (suc k) n more h =
    elim (n / 10 == 0) as
    (λ b. IsOneLine
    (cond b (digit_glyph false (n % 10) ∷ more)
    (digits_onto k 10 false (n / 10) (digit_glyph false (n % 10) ∷ more)))) [
      | true ↦ (glyph_is_no_feed (n % 10), h)
      | false ↦
          digits_line k (n / 10) (digit_glyph false (n % 10) ∷ more) (glyph_is_no_feed (n % 10), h)
    ]

decimal_line : (n : ℕ) → IsOneLine (decimal n)
unfolding digits
decimal_line n = digits_line 64 n [] tt

tab_is_no_feed : (b : ℕ) → tab_of b ≢ 10
tab_is_no_feed b = grind (arith, nat_tests)

tabs_line : (bytes : List ℕ) → IsOneLine (map tab_of bytes)
tabs_line [] = tt
tabs_line (b ∷ bs) = (tab_is_no_feed b, tabs_line bs)

above_a_feed : (b : ℕ) → 10 < b → b ≢ 10
above_a_feed b h e = omega arith

pub answer_is_line : (a : Answer) → IsOneLine (answer_line a)
answer_is_line a =
    both_lines (decimal (status_of a)) (32 ∷ map tab_of (body_text a)) (decimal_line (status_of a))
    (above_a_feed 32 (lit< tt), tabs_line (body_text a))

-- so no answer but that of a fault is printed as it is
another : (text : List ℕ) → bytes_eq text storage ≡ false → text ≢ storage
another text other same = false≢true (sym other ∙ ap (λ t. bytes_eq t storage) same)

pub refusal_is_no_storage : refusal ≢ storage
refusal_is_no_storage = another _ refusal_is_another

pub answered_is_another : (a : Answer) → IsNotStorage a → answer_line a ≢ storage
answered_is_another (answer.Reply reply) h = another _ (reply_is_another reply)
answered_is_another (answer.Wire refusal) h = another _ (wire_is_another refusal)
answered_is_another answer.Storage h = absurd h
