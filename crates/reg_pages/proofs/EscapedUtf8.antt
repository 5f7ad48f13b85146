-- What stands for a text in UTF-8 is UTF-8: each character is one of the five that are ASCII, or stands
-- for itself.
use Rattle.std.proofs.Common.{◌≡◌, ℕ, zero, suc, ◌<◌, ◌≤◌, Bool, true, ◌&&◌, nat_lt, List, [], ◌∷◌, ◌++◌, length, get_or, IsUtf8, inl, inr, refl, sym, ap₂, subst, arith, append-nil, ltb-true}
use Rattle.std.proofs.lemmas.Bool.{and_parts, cases_lt, cases_eq}
use Rattle.std.proofs.lemmas.Bool.Decides.{nat_tests}
use Rattle.std.proofs.lemmas.Grind.{flat_map-append}
use Rattle.std.proofs.lemmas.Str.{IsUtf8-append, IsUtf8-nil, IsUtf8-encode, encode_ascii, inside_one}
use lib.Utf8.{scalar, scalars, encode, encodes, low_scalar}
use Rattle.reg_pages.specs.Escape.{escaped, escaped_byte}

ascii_then : (x : ℕ) (xs : List ℕ) → x < 128 → IsUtf8 xs → IsUtf8 (x ∷ xs)
ascii_then x xs small rest =
    IsUtf8-append (x ∷ []) xs
    (subst IsUtf8 (encode_ascii x small) (IsUtf8-encode x (low_scalar x (omega arith)))) rest

abbrev are_ascii : List ℕ → Bool
are_ascii [] = true
are_ascii (x ∷ xs) = nat_lt x 128 && are_ascii xs

IsUtf8-are_ascii : (xs : List ℕ) → are_ascii xs ≡ true → IsUtf8 xs
IsUtf8-are_ascii [] e = IsUtf8-nil
IsUtf8-are_ascii (x ∷ xs) e =
    let p = and_parts _ _ e in
    ascii_then x xs (ltb-true _ _ p.0) (IsUtf8-are_ascii xs p.1)

-- what stands for the bytes below n is ASCII
abbrev ascii_below : ℕ → Bool
ascii_below zero = true
ascii_below (suc n) = are_ascii (escaped_byte n) && ascii_below n

are_ascii-escaped_byte : (n : ℕ) → ascii_below n ≡ true → (x : ℕ) → x < n
    → are_ascii (escaped_byte x) ≡ true
are_ascii-escaped_byte zero e x h = absurd (omega arith)
are_ascii-escaped_byte (suc n) e x h =
    let p = and_parts _ _ e in
    elim (cases_eq x n) [
      | inl same ↦ rw same p.0
      | inr other ↦ are_ascii-escaped_byte n p.1 x (omega arith)
    ]

all_ascii : ascii_below 128 ≡ true
all_ascii = refl

-- a byte of a longer character stands for itself
escaped_byte-high : (x : ℕ) → 128 ≤ x → escaped_byte x ≡ x ∷ []
escaped_byte-high x high = grind (arith, nat_tests, high)

escaped-high : (xs : List ℕ) → ((k : ℕ) → k < length xs → 128 ≤ get_or xs k 0)
    → escaped xs ≡ xs
escaped-high [] h = refl
escaped-high (x ∷ xs) h =
    ap₂ (λ (a b : List ℕ). a ++ b) (escaped_byte-high x (h 0 (omega arith)))
    (escaped-high xs (λ k below. h (suc k) (omega arith)))

one_character : (c : ℕ) → scalar c ≡ true → IsUtf8 (escaped (encode c))
one_character c ok = elim (cases_lt c 128) [
  | inl small ↦ rw (encode_ascii c small, append-nil)
      (IsUtf8-are_ascii _ (are_ascii-escaped_byte 128 all_ascii c small))
  | inr big ↦
      let high : (k : ℕ) → k < length (encode c) → 128 ≤ get_or (encode c) k 0 =
      λ k below. elim (cases_lt (get_or (encode c) k 0) 128) [
        | inl low ↦ absurd
            (omega (arith, inside_one c [] (encode c) k (sym (append-nil _)) below low))
        | inr h ↦ h
      ] in
      subst IsUtf8 (sym (escaped-high (encode c) high)) (IsUtf8-encode c ok)
]

all_characters : (cs : List ℕ) → scalars cs ≡ true → IsUtf8 (escaped (encodes cs))
all_characters [] e = IsUtf8-nil
all_characters (c ∷ cs) e =
    let p = and_parts _ _ e in
    subst IsUtf8 (sym (flat_map-append escaped_byte (encode c) (encodes cs)))
    (IsUtf8-append _ _ (one_character c p.0) (all_characters cs p.1))

pub IsUtf8-escaped : (text : List ℕ) → IsUtf8 text → IsUtf8 (escaped text)
IsUtf8-escaped text spelled =
    subst (λ bytes. IsUtf8 (escaped bytes)) spelled.1.1 (all_characters spelled.0 spelled.1.0)
