-- The texts of prefixes and of blocks read as these.
use Rattle.std.proofs.Common.{◌≡◌, ℕ, zero, suc, ◌/◌, ◌%◌, ◌^◌, ◌<◌, true, [], ◌∷◌, length, refl, ◌∙◌, length-append, arith}
use Rattle.std.specs.Prelude.{Some, IsTrue}
use Rattle.std.specs.List.{list_all}
use Rattle.std.specs.Char.{digit_value, is_digit}
use Rattle.std.specs.Fmt.{digit_glyph}
use Rattle.std.specs.Str.Parse.{digits_value}
use Rattle.std.proofs.Math.Nat.{pow-suc}
use Rattle.std.proofs.lemmas.Bool.Decides.{nat_tests}
use Rattle.std.proofs.lemmas.List.Folds.{list_all-append}
use Rattle.std.proofs.lemmas.Int.Digits.{digits_value_push}
use Rattle.std.proofs.lemmas.Bool.{and_from}
use Rattle.reg_blocks.specs.declared.size.Size.{Size}
use Rattle.reg_blocks.specs.declared.size.Size.TheVariants.{MaL, MaM, MaS}
use Rattle.reg_blocks.specs.Size.{digit_count, size_of_digits}
use Rattle.reg_blocks.specs.Pool.{is_pool_prefix}
use Rattle.reg_blocks.specs.Block.{SizedPrefix, is_block, make_block}
use Rattle.reg_blocks.specs.Digits.{hex_digits, hex_value_of, read_prefix, prefix_text, read_block, block_text}

glyph_value : (n : ℕ) → n < 16 → digit_value (digit_glyph true n) ≡ n
glyph_value n h = grind (arith, nat_tests)

glyph_digit : (n : ℕ) → n < 16 → is_digit (digit_glyph true n) 16 ≡ true
glyph_digit n h = let e = glyph_value n h in grind (arith, nat_tests)

digits_length : (count n : ℕ) → length (hex_digits count n) ≡ count
unfolding hex_digits
digits_length zero n = refl
digits_length (suc count) n =
    omega (
      arith,
      length-append (hex_digits count (n / 16)) (digit_glyph true (n % 16) ∷ []),
      digits_length count (n / 16),
    )

digits_only : (count n : ℕ) → list_all (λ digit. is_digit digit 16) (hex_digits count n) ≡ true
unfolding hex_digits
digits_only zero n = refl
digits_only (suc count) n =
    list_all-append (λ digit. is_digit digit 16) (hex_digits count (n / 16))
    (digit_glyph true (n % 16) ∷ [])
    ∙ and_from _ _ (digits_only count (n / 16)) (and_from _ true (glyph_digit (n % 16) (omega arith)) refl)

value_back : (count n : ℕ) → n < 16 ^ count → digits_value 16 (hex_digits count n) ≡ n
unfolding hex_digits
value_back zero n h = omega arith
value_back (suc count) n h =
    let p = pow-suc 16 count in
    let front = value_back count (n / 16) (omega arith) in
    let last = glyph_value (n % 16) (omega arith) in
    omega (arith, digits_value_push 16 (hex_digits count (n / 16)) (digit_glyph true (n % 16)))

below : (n : ℕ) → is_pool_prefix n ≡ true → n < 2 ^ 24
below n h = grind (arith, nat_tests)

fits : (size : Size) (prefix : ℕ) → is_block (record { size = size; prefix = prefix }) ≡ true
    → prefix < 16 ^ digit_count size
fits MaL prefix h = let b = below (prefix / 1) h in omega arith
fits MaM prefix h = let b = below (prefix / 2 ^ 4) h in omega arith
fits MaS prefix h = let b = below (prefix / 2 ^ 12) h in omega arith

own_size : (size : Size) → size_of_digits (digit_count size) ≡ Some size
own_size MaL = refl
own_size size = refl

value_of_text : (count n : ℕ) → n < 16 ^ count → hex_value_of (hex_digits count n) ≡ Some n
value_of_text count n h = rw (digits_only count n, value_back count n h) refl

pub read_prefix-prefix_text : (prefix : ℕ) → prefix < 2 ^ 24
    → read_prefix (prefix_text prefix) ≡ Some prefix
read_prefix-prefix_text prefix h = rw (digits_length 6 prefix) (value_of_text 6 prefix h)

made : (block : SizedPrefix) → is_block block ≡ true
    → make_block block.size block.prefix ≡ Some block
made block h = rw h refl

pub read_block-block_text : (block : SizedPrefix) → IsTrue (is_block block)
    → read_block (block_text block) ≡ Some block
read_block-block_text block h =
    rw (
      digits_length (digit_count block.size) block.prefix,
      own_size block.size,
      value_of_text (digit_count block.size) block.prefix (fits block.size block.prefix h),
    )
    (made block h)
