-- The SHA-256 of a token, in lower-case hexadecimal, has a digest's form.
use Rattle.std.proofs.Common.{◌≡◌, ℕ, zero, suc, List, [], ◌∷◌, ◌++◌, length, Bool, true, ◌<◌, ◌/◌, ◌%◌, slice_index, arith, refl}
use Rattle.std.specs.List.{list_all}
use Rattle.std.specs.Cmp.{first_so, second_so}
use Rattle.std.specs.Int.{byte_at, bytes_high_first, to_be_bytes, w32}
use Rattle.std.proofs.lemmas.Bool.{and_from}
use Rattle.sha2.specs.Sha256.{digest_bytes, final_hash, initial_hash_256, sha256}
use Rattle.sha2.proofs.Facts256.{length-sha256}
use Rattle.hex.specs.Hex.{encode_lower, encode_with, lower_digits}
use Rattle.hex.proofs.HexLemmas.{length-encode_with}
use Rattle.reg_ranges.specs.Texts.{is_within}
use Rattle.reg_core.specs.Names.{is_digest, is_digest_byte}
use Rattle.reg_core.specs.Laws.{GivesDigests}
use Rattle.reg_registers.specs.Caller.{token_digest}

abbrev AllBytes : List ℕ → Type 0
AllBytes [] = Unit {0}
AllBytes (b ∷ bs) = (b < 256) × AllBytes bs

AllBytes-append : (xs ys : List ℕ) → AllBytes xs → AllBytes ys → AllBytes (xs ++ ys)
AllBytes-append [] ys h k = k
AllBytes-append (x ∷ xs) ys h k = (h.0, AllBytes-append xs ys h.1 k)

is_byte-byte_at : (i n : ℕ) → byte_at i n < 256
is_byte-byte_at zero n = omega arith
is_byte-byte_at (suc i) n = omega arith

AllBytes-high_first : (k n : ℕ) → AllBytes (bytes_high_first k n)
AllBytes-high_first zero n = tt
AllBytes-high_first (suc k) n = (is_byte-byte_at k n, AllBytes-high_first k n)

AllBytes-digest : (h : List ℕ) (n : ℕ) → AllBytes (digest_bytes h n)
unfolding digest_bytes
AllBytes-digest h zero = tt
AllBytes-digest h (suc n) =
    AllBytes-append (digest_bytes h n) (to_be_bytes w32 (slice_index h n)) (AllBytes-digest h n)
    (AllBytes-high_first 4 (slice_index h n))

AllBytes-sha256 : (m : List ℕ) → AllBytes (sha256 m)
unfolding sha256
AllBytes-sha256 m = AllBytes-digest (final_hash initial_hash_256 m) 8

-- what passes everywhere passes at each place
passes_at : (p : ℕ → Bool) (xs : List ℕ) (i : ℕ) → list_all p xs ≡ true → i < length xs
    → p (slice_index xs i) ≡ true
passes_at p [] i h lt = absurd (omega arith)
passes_at p (x ∷ xs) zero h lt = first_so (p x) (list_all p xs) h
passes_at p (x ∷ xs) (suc i) h lt =
    passes_at p xs i (second_so (p x) (list_all p xs) h) (omega arith)

digits_pass : (xs : List ℕ) → AllBytes xs → list_all is_digest_byte (encode_lower xs) ≡ true
unfolding encode_with
digits_pass [] h = refl
digits_pass (b ∷ rest) h =
    let fits : b < 256 = h.0 in
    let high = passes_at is_digest_byte lower_digits (b / 16) refl (omega arith) in
    let low = passes_at is_digest_byte lower_digits (b % 16) refl (omega arith) in
    and_from _ _ high (and_from _ _ low (digits_pass rest h.1))

is_digest-encode_lower : (xs : List ℕ) → AllBytes xs → length xs ≡ 32
    → is_digest (encode_lower xs) ≡ true
is_digest-encode_lower xs h len =
    let long : length (encode_lower xs) ≡ 64 =
    omega (arith, length-encode_with lower_digits xs, len) in
    and_from (is_within 64 64 (length (encode_lower xs))) _ (rw long refl) (digits_pass xs h)

-- whatever the token
pub is_digest-token_digest : (token : List ℕ) → is_digest (token_digest token) ≡ true
unfolding token_digest
is_digest-token_digest token =
    is_digest-encode_lower (sha256 token) (AllBytes-sha256 token) (length-sha256 token)

pub gives_digests : GivesDigests token_digest
gives_digests token h = is_digest-token_digest token
