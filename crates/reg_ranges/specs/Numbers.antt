-- Numbers of 32 bits as decimal texts.
use Rattle.std.specs.Prelude.{◌≡◌, ◌↔◌, ◌<◌, ◌^◌, ℕ, Bool, false, ◌&&◌, ◌==◌, not, nat_lt, List, [], ◌∷◌, length, Option, Some, None, if◌then◌else◌}
use Rattle.std.specs.Char.{is_ascii_digit}
use Rattle.std.specs.Fmt.{decimal}
use Rattle.std.specs.List.{list_all}
use Rattle.std.specs.Str.Parse.{digits_value}

-- a text of more than one character that begins with 0
abbrev pub has_leading_zero : List ℕ → Bool
has_leading_zero [] = false
has_leading_zero (d ∷ []) = false
has_leading_zero (d ∷ e ∷ rest) = d == 48

-- digits alone, one or more, without a leading zero
abbrev pub is_numeral : List ℕ → Bool
is_numeral s = nat_lt 0 (length s) && (not (has_leading_zero s) && list_all is_ascii_digit s)

-- the number that these digits write, where it has 32 bits at most
abbrev pub read_number : List ℕ → Option ℕ
read_number s =
    (if is_numeral s && nat_lt (digits_value 10 s) (2 ^ 32) then Some (digits_value 10 s) else None)

-- exactly the decimal text of a number of 32 bits reads to that number
abbrev pub ReadsDecimals : Type 0
ReadsDecimals = (n : ℕ) (s : List ℕ) → (read_number s ≡ Some n) ↔ ((n < 2 ^ 32) × (s ≡ decimal n))
