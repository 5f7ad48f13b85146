-- What the fields of a head say of the body and of who asks.
use Rattle.std.specs.Prelude.{ℕ, ◌-◌, ◌+◌, ◌*◌, ◌==◌, ◌&&◌, List, [], ◌∷◌, length, take, drop, codes, Bool, nat_lt, nat_le, Result, Ok, Err, Option, Some, None, if◌then◌else◌}
use Rattle.std.specs.Char.{is_ascii_digit}
use Rattle.std.specs.List.{list_all}
use Rattle.std.specs.Str.{str_eq_ignore_ascii_case}
use Rattle.reg_head.specs.Head.{named}
use Rattle.reg_head.specs.declared.malformed.Malformed.{Malformed}
use Rattle.reg_head.specs.declared.malformed.Malformed.TheVariants as malformed

-- ---- How long the body is

-- the most bytes of a body
abbrev pub most_body_bytes : ℕ
most_body_bytes = 65536

-- one digit or more, and nothing else
abbrev pub is_number : List ℕ → Bool
is_number value = nat_lt 0 (length value) && list_all is_ascii_digit value

-- the number that digits write, after those of n
abbrev pub number_from : ℕ → List ℕ → ℕ
number_from n [] = n
number_from n (digit ∷ digits) = number_from (n * 10 + (digit - 48)) digits

-- how many bytes the value of a Content-Length says (RFC 9110 section 8.6)
abbrev pub length_of : List ℕ → Result ℕ Malformed
length_of value =
    (if is_number value then (
    if nat_le (number_from 0 value) most_body_bytes then Ok (number_from 0 value)
    else Err malformed.Large) else Err malformed.Length)

-- by the values of the fields Transfer-Encoding and of those Content-Length; without both there is
-- no body
abbrev pub length_by : List (List ℕ) → List (List ℕ) → Result ℕ Malformed
length_by (encoding ∷ encodings) lengths = Err malformed.Encoding
length_by [] [] = Ok 0
length_by [] (value ∷ []) = length_of value
length_by [] (value ∷ other ∷ values) = Err malformed.Length

-- how many bytes of a body the fields announce
abbrev pub announced : List (List ℕ × List ℕ) → Result ℕ Malformed
announced fields =
    length_by (named (codes "transfer-encoding") fields) (named (codes "content-length") fields)

-- ---- Who asks

-- the bytes from the first that is no space
abbrev pub skip_spaces : List ℕ → List ℕ
skip_spaces [] = []
skip_spaces (b ∷ bytes) = (if b == 32 then skip_spaces bytes else b ∷ bytes)

-- what follows the scheme Bearer and one or more spaces (RFC 6750 section 2.1); the scheme is
-- compared without case
abbrev pub bearer : List ℕ → Option (List ℕ)
bearer value =
    (if str_eq_ignore_ascii_case (take 7 value) (codes "Bearer ") then
    Some (skip_spaces (drop 7 value)) else None)

-- by the values of the fields Authorization; two of them are as none
abbrev pub token_by : List (List ℕ) → Option (List ℕ)
token_by [] = None
token_by (value ∷ []) = bearer value
token_by (value ∷ other ∷ values) = None

-- the bearer token that the fields give
abbrev pub token_of : List (List ℕ × List ℕ) → Option (List ℕ)
token_of fields = token_by (named (codes "authorization") fields)
