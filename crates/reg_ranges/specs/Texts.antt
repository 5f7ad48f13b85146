-- The forms of the texts: which lists of bytes are an account, a text, a token, a digest.
use Rattle.std.specs.Prelude.{ℕ, Bool, true, ◌&&◌, nat_le, List, length, ◌≡◌, Option, Some, None, if◌then◌else◌}
use Rattle.std.specs.List.{list_all}
use Rattle.std.specs.Str.{IsAscii}
use Rattle.std.specs.Prelude.{◌<◌, ◌∷◌, []}
use Rattle.std.specs.Cmp.{first_so, second_so}
use Rattle.std.proofs.Common.{arith}
use Rattle.std.proofs.lemmas.Bool.Decides.{nat_tests}
use Rattle.std.proofs.lemmas.Str.Ascii.{IsAscii-nil, IsAscii-cons}

-- low to high, both included
abbrev pub is_within : ℕ → ℕ → ℕ → Bool
is_within low high n = nat_le low n && nat_le n high

-- printable ASCII
abbrev pub is_text_byte : ℕ → Bool
is_text_byte b = is_within 32 126 b

-- low to high bytes, each of the kind
abbrev pub is_run : (ℕ → Bool) → ℕ → ℕ → List ℕ → Bool
is_run kind low high s = is_within low high (length s) && list_all kind s

-- 1 to 200 printable ASCII bytes
abbrev pub is_text : List ℕ → Bool
is_text s = is_run is_text_byte 1 200 s

-- the text of these bytes where they have the form
abbrev pub read_text : (List ℕ → Bool) → List ℕ → Option (List ℕ)
read_text form s = (if form s then Some s else None)

-- each form is of ASCII texts
pub ascii_all : (kind : ℕ → Bool) → ((b : ℕ) → kind b ≡ true → b < 128) → (s : List ℕ)
    → list_all kind s ≡ true → IsAscii s
ascii_all kind below [] h = IsAscii-nil
ascii_all kind below (x ∷ xs) h =
    IsAscii-cons x xs (below x (first_so (kind x) (list_all kind xs) h))
    (ascii_all kind below xs (second_so (kind x) (list_all kind xs) h))

pub ascii_run : (kind : ℕ → Bool) (low high : ℕ) → ((b : ℕ) → kind b ≡ true → b < 128)
    → (s : List ℕ) → is_run kind low high s ≡ true → IsAscii s
ascii_run kind low high below s h =
    ascii_all kind below s (second_so (is_within low high (length s)) (list_all kind s) h)

pub ascii_text : (s : List ℕ) → is_text s ≡ true → IsAscii s
ascii_text s h = ascii_run is_text_byte 1 200 (λ b h. grind (arith, nat_tests)) s h
