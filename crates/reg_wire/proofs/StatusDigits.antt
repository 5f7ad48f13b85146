-- The three digits of a status are its number in decimal.
use Rattle.std.proofs.Common.{◌≡◌, ℕ, suc, ◌+◌, ◌/◌, ◌%◌, ◌<◌, ◌≤◌, false, List, [], ◌∷◌, refl, ◌∙◌, arith}
use Rattle.std.proofs.lemmas.Bool.Decides.{nat_tests}
use Rattle.std.specs.Fmt.{decimal, digits, digits_onto}
use Rattle.http.specs.StatusCode.{code_digits, IsStatusCode}

one_more : (k n : ℕ) (tail : List ℕ) → 10 ≤ n
    → digits_onto (suc k) 10 false n tail ≡ digits_onto k 10 false (n / 10) ((48 + n % 10) ∷ tail)
one_more k n tail h = grind (arith, nat_tests)

the_first : (k n : ℕ) (tail : List ℕ) → n < 10 → digits_onto (suc k) 10 false n tail ≡ (48 + n) ∷ tail
the_first k n tail h = grind (arith, nat_tests)

pub decimal_code : (n : ℕ) → IsStatusCode n → decimal n ≡ code_digits n
unfolding digits
decimal_code n h =
    let hundreds : n / 10 / 10 ≡ n / 100 = omega arith in
    one_more 63 n _ (omega arith) ∙ one_more 62 (n / 10) _ (omega arith)
    ∙ the_first 61 (n / 10 / 10) _ (omega arith) ∙ rw hundreds refl
