-- What the parser of numbers makes of a moment.
use Rattle.std.proofs.Common.{zero, suc, sym, ap, ◌∙◌, Some, None, Bool, lit<, ◌≡◌, ◌≢◌, ℕ, ◌<◌, ◌^◌, List, [], ◌∷◌, length, get_or, true, false, refl, arith, rules}
use Rattle.std.proofs.lemmas.Bool.{lt-ltb, ltb-true}
use Rattle.std.proofs.lemmas.Bool.Decides.{nat_tests}
use Rattle.std.proofs.lemmas.Str.Parse.{IsNumeralModel, numerals_by_value, parse_plain}
use Rattle.std.proofs.lemmas.Str.Ascii.{IsAscii-nil, IsAscii-cons}
use Rattle.std.proofs.lemmas.Option.{same_Some, none-some}
use Rattle.std.proofs.lemmas.Fmt.{digits_decimal, digits_value-decimal, decimal-digits_value, decimal_nonempty, first_decimal, decimal_digit}
use Rattle.std.specs.Fmt.{decimal}
use Rattle.std.specs.Prelude.{◌==◌, ◌||◌, ◌&&◌, if◌then◌else◌, not, slice_index, Result, Ok, Err, nat_lt}
use Rattle.std.specs.Result.{OkIff, result_ok}
use Rattle.std.specs.List.{list_all, AllByRecursion}
use Rattle.std.specs.Char.{is_ascii_digit}
use Rattle.std.specs.Cmp.{first_so, second_so}
use Rattle.std.proofs.lemmas.Str.{IsUtf8-from_ascii}
use Rattle.std.specs.Str.{IsAscii, IsUtf8}
use Rattle.std.specs.Str.Parse.{ParsesUnsigned, digits_value}
use Rattle.reg_wire.specs.Script.Line.{is_decimal, moment_of}

own : IsNumeralModel (λ ds. list_all is_ascii_digit ds ≡ true) (digits_value 10)
own = numerals_by_value _ (search rules)

digits_of : (text : List ℕ) → is_decimal text ≡ true → list_all is_ascii_digit text ≡ true
digits_of text h = grind (arith, nat_tests)

ascii_digits : (text : List ℕ) → list_all is_ascii_digit text ≡ true → IsAscii text
ascii_digits [] h = IsAscii-nil
ascii_digits (b ∷ bs) h =
    IsAscii-cons b bs
    (let d = first_so (is_ascii_digit b) (list_all is_ascii_digit bs) h in
    grind (arith, nat_tests))
    (ascii_digits bs (second_so (is_ascii_digit b) (list_all is_ascii_digit bs) h))

pub decimal_is_text : (text : List ℕ) → is_decimal text ≡ true → IsUtf8 text
decimal_is_text text h = IsUtf8-from_ascii text (ascii_digits text (digits_of text h))

no_plus : (text : List ℕ) → list_all is_ascii_digit text ≡ true → get_or text 0 0 ≢ 43
no_plus [] h = grind arith
no_plus (b ∷ bs) h = let d = first_so (is_ascii_digit b) (list_all is_ascii_digit bs) h in
    grind (arith, nat_tests)

some : (text : List ℕ) → is_decimal text ≡ true → 0 < length text
some text h = grind (arith, nat_tests)

not_below : (m n : ℕ) → ¬ (m < n) → nat_lt m n ≡ false
not_below m n h = grind (arith, nat_tests)

of_number : {E : Type 0} (text : List ℕ) (r : Result ℕ E) → is_decimal text ≡ true
    → list_all is_ascii_digit text ≡ true
    → OkIff r
    ((list_all is_ascii_digit text ≡ true) × (0 < length text) × (digits_value 10 text < 2 ^ 64))
    (digits_value 10 text) → result_ok r ≡ moment_of text
of_number text (Ok x) h d p = let small = lt-ltb (digits_value 10 text) (2 ^ 64) p.0.2 in
    rw (h, small, p.1) refl
of_number text (Err e) h d p = let large : nat_lt (digits_value 10 text) (2 ^ 64) ≡ false =
    not_below (digits_value 10 text) (2 ^ 64) (λ b. p (d, some text h, b)) in rw (h, large) refl

pub moment_parsed : {E : Type 0} (text : List ℕ) (r : Result ℕ E) → is_decimal text ≡ true
    → ParsesUnsigned 64 10 text r → result_ok r ≡ moment_of text
moment_parsed text r h p = let d = digits_of text h in
    of_number text r h d (parse_plain own 64 text r p (no_plus text d))

-- ---- A moment is written in decimal

or_true : (b : Bool) → (b || true) ≡ true
or_true true = refl
or_true false = refl

above_zero : (b : ℕ) → 48 < b → (b == 48) ≡ false
above_zero b h = grind (arith, nat_tests)

decimal_starts : (n : ℕ) → n < 2 ^ 64
    → ((length (decimal n) == 1) || not (slice_index (decimal n) 0 == 48)) ≡ true
decimal_starts zero h = rw (decimal_digit 0 (lit< tt)) refl
decimal_starts (suc n) h =
    rw (above_zero (slice_index (decimal (suc n)) 0) (first_decimal (suc n) (omega arith) h))
    (or_true (length (decimal (suc n)) == 1))

decimal_is_decimal : (n : ℕ) → n < 2 ^ 64 → is_decimal (decimal n) ≡ true
decimal_is_decimal n h =
    let every = digits_decimal own n h in
    let some = lt-ltb 0 (length (decimal n)) (decimal_nonempty n h) in
    rw (every, some, decimal_starts n h) refl

pub moment_reads : (n : ℕ) → n < 2 ^ 64 → moment_of (decimal n) ≡ Some n
moment_reads n h =
    let value = digits_value-decimal own n h in
    let small = lt-ltb n (2 ^ 64) h in
    rw (decimal_is_decimal n h, value, small) refl

one_digit : (text : List ℕ) → is_decimal text ≡ true → get_or text 0 0 ≡ 48 → length text ≡ 1
one_digit text h zero_first = grind (arith, nat_tests)

by_test : (text : List ℕ) (n : ℕ) (t : Bool)
    → (is_decimal text && nat_lt (digits_value 10 text) (2 ^ 64)) ≡ t
    → (if t then Some (digits_value 10 text) else None) ≡ Some n
    → (text ≡ decimal n) × (n < 2 ^ 64)
by_test text n true test e =
    let is = first_so (is_decimal text) (nat_lt (digits_value 10 text) (2 ^ 64)) test in
    let small =
    ltb-true (digits_value 10 text) (2 ^ 64)
    (second_so (is_decimal text) (nat_lt (digits_value 10 text) (2 ^ 64)) test) in
    let value : digits_value 10 text ≡ n = same_Some (digits_value 10 text) n e in
    let whole =
    decimal-digits_value own text (digits_of text is) (some text is) (one_digit text is)
    small in
    (sym whole ∙ ap decimal value, omega arith)
by_test text n false test e = absurd (none-some n e)

pub moment_is : (text : List ℕ) (n : ℕ) → moment_of text ≡ Some n
    → (text ≡ decimal n) × (n < 2 ^ 64)
moment_is text n e =
    by_test text n (is_decimal text && nat_lt (digits_value 10 text) (2 ^ 64)) refl e

no_spaces : (text : List ℕ) → list_all is_ascii_digit text ≡ true
    → AllByRecursion (λ b. b ≢ 32) text
no_spaces [] h = tt
no_spaces (b ∷ bs) h =
    let d = first_so (is_ascii_digit b) (list_all is_ascii_digit bs) h in (
      (λ e. grind (arith, nat_tests)),
      no_spaces bs (second_so (is_ascii_digit b) (list_all is_ascii_digit bs) h),
    )

-- a decimal is a field
pub decimal_field : (n : ℕ) → n < 2 ^ 64
    → (0 < length (decimal n)) × AllByRecursion (λ b. b ≢ 32) (decimal n)
decimal_field n h = (decimal_nonempty n h, no_spaces (decimal n) (digits_decimal own n h))
