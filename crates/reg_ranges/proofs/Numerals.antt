-- Decimal texts read to the numbers that they write.
use Rattle.std.proofs.Common.{◌≡◌, ℕ, ◌<◌, ◌^◌, Bool, true, false, cond, ◌&&◌, not, nat_lt, List, [], ◌∷◌, length, get_or, Some, None, Result, Ok, Err, refl, sym, ap, inl, inr, arith, rules}
use Rattle.std.specs.Char.{is_ascii_digit}
use Rattle.std.specs.Fmt.{decimal}
use Rattle.std.specs.List.{list_all}
use Rattle.std.specs.Result.{OkIff, result_ok}
use Rattle.std.specs.Str.{IsAscii}
use Rattle.std.specs.Str.Parse.{digits_value, ParsesUnsigned}
use Rattle.std.proofs.lemmas.Bool.{and_parts, and_from, not-true, not_from_false, ltb-true, lt-ltb, le-ltb, cases_lt, eqb-false, ne_eqb}
use Rattle.std.proofs.lemmas.Fmt.{IsAscii-from_digits, decimal-digits_value, digits_decimal, digits_value-decimal, decimal_nonempty, first_decimal, decimal_digit}
use Rattle.std.proofs.lemmas.Str.Parse.{IsNumeralModel, numerals_by_value, parse_digits}
use Rattle.reg_ranges.specs.Numbers.{has_leading_zero, is_numeral, read_number, ReadsDecimals}

own : IsNumeralModel (λ ds. list_all is_ascii_digit ds ≡ true) (digits_value 10)
own = numerals_by_value (λ ds. list_all is_ascii_digit ds ≡ true) (search rules)

pub record IsDecimal (s : List ℕ) : Type 0 where
  pub some : 0 < length s
  pub plain : has_leading_zero s ≡ false
  pub digits : list_all is_ascii_digit s ≡ true

pub parts : (s : List ℕ) → is_numeral s ≡ true → IsDecimal s
parts s h =
    let first =
    and_parts (nat_lt 0 (length s)) (not (has_leading_zero s) && list_all is_ascii_digit s) h in
    let second = and_parts (not (has_leading_zero s)) (list_all is_ascii_digit s) first.1 in
    record {
      some = ltb-true 0 (length s) first.0;
      plain =
          not-true (has_leading_zero s) second.0;
      digits = second.1;
    }

whole : (s : List ℕ) → IsDecimal s → is_numeral s ≡ true
whole s d =
    and_from (nat_lt 0 (length s)) (not (has_leading_zero s) && list_all is_ascii_digit s)
    (lt-ltb 0 (length s) d.some)
    (and_from (not (has_leading_zero s)) (list_all is_ascii_digit s)
    (not_from_false (has_leading_zero s) d.plain) d.digits)

pub ascii_digits : (s : List ℕ) → list_all is_ascii_digit s ≡ true → IsAscii s
ascii_digits s h = IsAscii-from_digits s (own.to s h)

parsed_as : {E : Type 0} (s : List ℕ) (r : Result ℕ E) → 0 < length s
    → OkIff r ((0 < length s) × (digits_value 10 s < 2 ^ 32)) (digits_value 10 s)
    → result_ok r ≡ cond (nat_lt (digits_value 10 s) (2 ^ 32)) (Some (digits_value 10 s)) None
parsed_as {E} s (Ok n) some h = rw (lt-ltb (digits_value 10 s) (2 ^ 32) h.0.1) (ap Some h.1)
parsed_as {E} s (Err e) some h = elim (cases_lt (digits_value 10 s) (2 ^ 32)) [
  | inl below ↦ absurd (h (some, below))
  | inr above ↦ rw (le-ltb (digits_value 10 s) (2 ^ 32) above) refl
]

pub parse_is : {E : Type 0} (s : List ℕ) (r : Result ℕ E) → is_numeral s ≡ true
    → ParsesUnsigned 32 10 s r
    → result_ok r ≡ cond (nat_lt (digits_value 10 s) (2 ^ 32)) (Some (digits_value 10 s)) None
parse_is {E} s r h p = let d = parts s h in
    parsed_as s r d.some (parse_digits own 32 s r p d.digits)

-- ---- reading is the inverse of writing

no_zero : (s : List ℕ) → has_leading_zero s ≡ false → get_or s 0 0 ≡ 48 → 0 < length s
    → length s ≡ 1
no_zero [] h is some = absurd (omega arith)
no_zero (d ∷ []) h is some = refl
no_zero (d ∷ e ∷ rest) h is some = absurd (eqb-false d 48 h is)

not_zero : (s : List ℕ) → 48 < get_or s 0 0 → has_leading_zero s ≡ false
not_zero [] above = refl
not_zero (d ∷ []) above = refl
not_zero (d ∷ e ∷ rest) above = ne_eqb d 48 (λ is. absurd (omega arith))

read_as_if : (n v : ℕ) (s : List ℕ) (test : Bool) → (test ≡ true → (v < 2 ^ 32) × (s ≡ decimal v))
    → cond test (Some v) None ≡ Some n → (n < 2 ^ 32) × (s ≡ decimal n)
read_as_if n v s true given h = let same : v ≡ n = cc in rw (← same) (given refl)
read_as_if n v s false given h = absurd (cc)

numeral_value : (s : List ℕ) → (is_numeral s && nat_lt (digits_value 10 s) (2 ^ 32)) ≡ true
    → (digits_value 10 s < 2 ^ 32) × (s ≡ decimal (digits_value 10 s))
numeral_value s h =
    let both = and_parts (is_numeral s) (nat_lt (digits_value 10 s) (2 ^ 32)) h in
    let d = parts s both.0 in
    let small = ltb-true (digits_value 10 s) (2 ^ 32) both.1 in (
      small,
      sym
          (decimal-digits_value own s d.digits d.some (λ is. no_zero s d.plain is d.some)
          (omega arith)),
    )

read_as : (n : ℕ) (s : List ℕ) → read_number s ≡ Some n → (n < 2 ^ 32) × (s ≡ decimal n)
read_as n s h =
    read_as_if n (digits_value 10 s) s (is_numeral s && nat_lt (digits_value 10 s) (2 ^ 32))
    (numeral_value s) h

plain : (n : ℕ) → n < 2 ^ 64 → has_leading_zero (decimal n) ≡ false
plain n small = elim (cases_lt n 10) [
  | inl one ↦ rw (decimal_digit n one) refl
  | inr more ↦ not_zero (decimal n) (first_decimal n (omega arith) small)
]

written : (n : ℕ) → n < 2 ^ 32 → read_number (decimal n) ≡ Some n
written n small =
    let fits : n < 2 ^ 64 = omega arith in
    let d : IsDecimal (decimal n) =
    record {
      some = decimal_nonempty n fits;
      plain = plain n fits;
      digits = digits_decimal own n fits;
    } in
    rw (whole (decimal n) d, digits_value-decimal own n fits, lt-ltb n (2 ^ 32) small) refl

pub reads_decimals : ReadsDecimals
reads_decimals n s = (read_as n s, λ both. rw both.1 (written n both.0))
