-- The kept bytes of a line, up to the first that makes it too long.
use Rattle.std.proofs.Common.{◌≡◌, ℕ, ◌+◌, ◌-◌, ◌<◌, ◌≤◌, List, ◌++◌, true, length, take, refl, sym, ap, ◌∙◌, arith, append-nil, inl, inr}
use Rattle.std.proofs.Math.Seq.{take-append-add}
use Rattle.std.proofs.lemmas.Bool.{lt-ltb, cases_lt}
use Rattle.std.proofs.lemmas.List.{take_all, take_min, take-append-le, length-take-le}
use Rattle.std.specs.Prelude.{nat_lt, min, None, Result, Ok, Err, is_ok, OnOk, if◌then◌else◌}
use Rattle.reg_wire.specs.Script.Line.{line_of, most_bytes}
use Rattle.reg_wire.specs.Script.LineBuffer.{IsBuffered}

-- as much of more bytes is kept as there is room for
kept_more : (n : ℕ) (line buffered more : List ℕ) → buffered ≡ take n line
    → buffered ++ take (n - length buffered) more ≡ take n (line ++ more)
kept_more n line buffered more e = elim (cases_lt (length line) n) [
  | inl short ↦
      let whole : buffered ≡ line = e ∙ take_all n line (omega arith) in
      let size : n ≡ length line + (n - length line) = omega arith in
      rw whole
      (sym (ap (λ k. take k (line ++ more)) size
      ∙ take-append-add line more (n - length line)))
  | inr full ↦
      let none : n - length buffered ≡ 0 =
      omega (arith, ap length e, length-take-le n line full) in
      rw none (append-nil buffered ∙ e ∙ sym (take-append-le n line more full))
]

-- after they were appended, where there was memory
pub buffered_more : {T E : Type 0} (r : Result T E) (buffered new more : List ℕ) (room kept : ℕ)
    → room ≡ most_bytes + 1 - length buffered → kept ≡ min room (length more)
    → new ≡ (if is_ok r then buffered ++ take kept more else buffered)
    → OnOk r ((line : List ℕ) → IsBuffered line buffered → IsBuffered (line ++ more) new)
buffered_more (Ok v) buffered new more room kept size least is =
    λ line before.
    let front : take kept more ≡ take room more =
    ap (λ n. take n more) least ∙ take_min room more in
    let kept_all = kept_more (most_bytes + 1) line buffered more before in
    is ∙ ap (λ t. buffered ++ t) (front ∙ ap (λ n. take n more) size) ∙ kept_all
buffered_more (Err e) buffered new more room kept size least is = tt

long_none : (n : ℕ) (line : List ℕ) → n < length line → nat_lt n (length (take (n + 1) line)) ≡ true
long_none n line h = let p : n + 1 ≤ length line = omega arith in
    rw (length-take-le (n + 1) line p) (lt-ltb n (n + 1) (omega arith))

none_of_long : (line : List ℕ) → nat_lt most_bytes (length line) ≡ true → line_of line ≡ None
unfolding line_of
none_of_long line h = rw h refl

-- what is buffered asks what the line asks
pub buffered_asks : (line buffered : List ℕ) → IsBuffered line buffered
    → line_of buffered ≡ line_of line
buffered_asks line buffered e = elim (cases_lt most_bytes (length line)) [
  | inl long ↦
      ap line_of e ∙ none_of_long (take (most_bytes + 1) line) (long_none most_bytes line long)
      ∙ sym (none_of_long line (lt-ltb most_bytes (length line) long))
  | inr fits ↦ ap line_of (e ∙ take_all (most_bytes + 1) line (omega arith))
]
