-- The first digits of a digest have their form.
use Rattle.std.proofs.Common.{◌≡◌, ◌≤◌, ℕ, zero, suc, Bool, true, nat_le, List, [], ◌∷◌, length, take, refl, ap, arith, length-take}
use Rattle.std.proofs.lemmas.Bool.Decides.{nat_tests}
use Rattle.std.specs.Cmp.{first_so, second_so}
use Rattle.std.specs.Cmp.Derive.{both_true}
use Rattle.std.specs.List.{list_all}
use Rattle.std.specs.Prelude.{Some, None, if◌then◌else◌}
use Rattle.reg_ranges.specs.Texts.{is_within, read_text}
use Rattle.reg_core.specs.Names.{first_digits, is_digest, is_digest_byte, is_first_digits}

-- what all bytes pass, the first ones do
first_pass : (kind : ℕ → Bool) (n : ℕ) (s : List ℕ) → list_all kind s ≡ true
    → list_all kind (take n s) ≡ true
first_pass kind zero s h = refl
first_pass kind (suc n) [] h = refl
first_pass kind (suc n) (b ∷ s) h =
    both_true (first_so (kind b) (list_all kind s) h)
    (first_pass kind n s (second_so (kind b) (list_all kind s) h))

digest_is_long : (s : List ℕ) → is_digest s ≡ true → 12 ≤ length s
digest_is_long s h =
    let within = first_so (is_within 64 64 (length s)) (list_all is_digest_byte s) h in
    let least : nat_le 64 (length s) ≡ true =
    first_so (nat_le 64 (length s)) (nat_le (length s) 64) within in
    grind (arith, nat_tests)

pub first_length : (s : List ℕ) → is_digest s ≡ true → length (take 12 s) ≡ 12
first_length s h =
    let enough = digest_is_long s h in omega (arith, length-take 12 s, enough)

-- so they are read
pub first_read : (s : List ℕ) → is_digest s ≡ true
    → read_text is_first_digits (first_digits s) ≡ Some (first_digits s)
first_read s h =
    let fits : is_first_digits (first_digits s) ≡ true =
    both_true (ap (is_within 12 12) (first_length s h))
    (first_pass is_digest_byte 12 s
    (second_so (is_within 64 64 (length s)) (list_all is_digest_byte s) h)) in
    ap (λ b. if b then Some (first_digits s) else None) fits
