-- The forms of names: which lists of bytes are an account, a reference, a registry's name, a
-- token, a digest.
use Rattle.std.specs.Prelude.{◌≡◌, ◌≤◌, ℕ, Bool, true, ◌||◌, ◌==◌, nat_le, ◌-◌, ◌++◌, List, length, replicate, take}
use Rattle.std.specs.List.{list_all}
use Rattle.std.specs.Str.{IsAscii}
use Rattle.std.specs.Cmp.{first_so, second_so}
use Rattle.std.proofs.Common.{arith}
use Rattle.std.proofs.lemmas.Bool.Decides.{nat_tests}
use Rattle.reg_ranges.specs.Texts.{is_within, is_run, ascii_run}

abbrev pub is_lower : ℕ → Bool
is_lower b = is_within 97 122 b

abbrev pub is_upper : ℕ → Bool
is_upper b = is_within 65 90 b

abbrev pub is_digit : ℕ → Bool
is_digit b = is_within 48 57 b

-- a to z, 0 to 9 and the dash
abbrev pub is_name_byte : ℕ → Bool
is_name_byte b = is_lower b || is_digit b || b == 45

-- letters, digits, dash, dot, underscore and tilde
abbrev pub is_token_byte : ℕ → Bool
is_token_byte b =
    is_lower b || is_upper b || is_digit b || b == 45 || b == 46 || b == 95 || b == 126

-- 0 to 9 and a to f
abbrev pub is_digest_byte : ℕ → Bool
is_digest_byte b = is_digit b || is_within 97 102 b

-- an account, a reference, a registry's name: 1 to 32 bytes
abbrev pub is_name : List ℕ → Bool
is_name s = is_run is_name_byte 1 32 s

-- 16 to 64 bytes
abbrev pub is_token : List ℕ → Bool
is_token s = is_run is_token_byte 16 64 s

-- 64 digits
abbrev pub is_digest : List ℕ → Bool
is_digest s = is_run is_digest_byte 64 64 s

-- the first 8 digits or more
abbrev pub is_digits : List ℕ → Bool
is_digits s = is_run is_digest_byte 8 64 s

-- the first 12 digits of a digest; and those of this one
abbrev pub is_first_digits : List ℕ → Bool
is_first_digits s = is_run is_digest_byte 12 12 s

abbrev pub first_digits : List ℕ → List ℕ
first_digits digest = take 12 digest

-- a name in so many bytes, with zeros after it
abbrev pub in_place : ℕ → List ℕ → List ℕ
in_place room s = s ++ replicate (room - length s) 0

-- each form is of ASCII texts
pub ascii_name : (s : List ℕ) → is_name s ≡ true → IsAscii s
ascii_name s h = ascii_run is_name_byte 1 32 (λ b h. grind (arith, nat_tests)) s h

pub ascii_token : (s : List ℕ) → is_token s ≡ true → IsAscii s
ascii_token s h = ascii_run is_token_byte 16 64 (λ b h. grind (arith, nat_tests)) s h

pub ascii_digest : (s : List ℕ) → is_digest s ≡ true → IsAscii s
ascii_digest s h = ascii_run is_digest_byte 64 64 (λ b h. grind (arith, nat_tests)) s h

pub ascii_digits : (s : List ℕ) → is_digits s ≡ true → IsAscii s
ascii_digits s h = ascii_run is_digest_byte 8 64 (λ b h. grind (arith, nat_tests)) s h

pub ascii_first_digits : (s : List ℕ) → is_first_digits s ≡ true → IsAscii s
ascii_first_digits s h = ascii_run is_digest_byte 12 12 (λ b h. grind (arith, nat_tests)) s h

-- each form is of no more bytes than it says
short_run : (kind : ℕ → Bool) (low high : ℕ) (s : List ℕ)
    → is_run kind low high s ≡ true → length s ≤ high
short_run kind low high s h =
    let within : _ = first_so (is_within low high (length s)) (list_all kind s) h in
    let most : nat_le (length s) high ≡ true =
    second_so (nat_le low (length s)) (nat_le (length s) high) within in
    grind (arith, nat_tests)

pub short_name : (s : List ℕ) → is_name s ≡ true → length s ≤ 32
short_name s h = short_run is_name_byte 1 32 s h

pub short_token : (s : List ℕ) → is_token s ≡ true → length s ≤ 64
short_token s h = short_run is_token_byte 16 64 s h

pub short_digest : (s : List ℕ) → is_digest s ≡ true → length s ≤ 64
short_digest s h = short_run is_digest_byte 64 64 s h

pub short_digits : (s : List ℕ) → is_digits s ≡ true → length s ≤ 64
short_digits s h = short_run is_digest_byte 8 64 s h

pub short_first_digits : (s : List ℕ) → is_first_digits s ≡ true → length s ≤ 12
short_first_digits s h = short_run is_digest_byte 12 12 s h

-- one byte counts the bytes of each
pub counted_name : 32 ≤ 255
counted_name = grind (arith)

pub counted_token : 64 ≤ 255
counted_token = grind (arith)

pub counted_digest : 64 ≤ 255
counted_digest = grind (arith)

pub counted_first_digits : 12 ≤ 255
counted_first_digits = grind (arith)
