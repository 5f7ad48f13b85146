-- Which digits read as a block.
use Rattle.std.proofs.Common.{◌≡◌, ℕ, ◌<◌, Bool, true, false, List, length, get_or, refl, subst, arith}
use Rattle.std.specs.Prelude.{Option, Some, None, option_and_then, ◌↔◌, if◌then◌else◌}
use Rattle.std.specs.List.{list_all}
use Rattle.std.specs.Char.{digit_value, is_digit}
use Rattle.std.specs.Str.Parse.{digits_value}
use Rattle.std.proofs.lemmas.Bool.Decides.{nat_tests}
use Rattle.std.proofs.lemmas.List.Sums.{AllPass-from_list_all, list_all-from_AllPass}
use Rattle.reg_blocks.specs.declared.size.Size.{Size}
use Rattle.reg_blocks.specs.declared.size.Size.TheVariants.{MaL}
use Rattle.reg_blocks.specs.Size.{digit_count, size_of_digits}
use Rattle.reg_blocks.specs.Block.{SizedPrefix, is_block, make_block}
use Rattle.reg_blocks.proofs.EndsDecideClash.{sized}
use Rattle.reg_blocks.specs.Digits.{hex_value_of, read_block, Writes}

-- a step that fails where an earlier one did
chain : {X Y : Type 0} (f : X → Option Y) (o : Option X) (y : Y) → option_and_then f o ≡ Some y
    → (x : X) × (o ≡ Some x) × (f x ≡ Some y)
chain f None y e = absurd (cc)
chain f (Some x) y e = (x, refl, e)

count_of : (count : ℕ) (size : Size) → size_of_digits count ≡ Some size → count ≡ digit_count size
count_of count MaL e = grind (arith, nat_tests)
count_of count size e = grind (arith, nat_tests)

size_of : (count : ℕ) (size : Size) → count ≡ digit_count size → size_of_digits count ≡ Some size
size_of count MaL e = rw e refl
size_of count size e = rw e refl

if_true : {X : Type 0} (b : Bool) (x y : X) → (if b then Some x else None) ≡ Some y
    → (b ≡ true) × (x ≡ y)
if_true true x y e = (refl, cc)
if_true false x y e = absurd (cc)

digit_below : (digit : ℕ) → is_digit digit 16 ≡ true → digit_value digit < 16
digit_below digit h = grind (arith, nat_tests)

below_digit : (digit : ℕ) → digit_value digit < 16 → is_digit digit 16 ≡ true
below_digit digit h = grind (arith, nat_tests)

from_parts : (digits : List ℕ) (size : Size) (prefix : ℕ) (block : SizedPrefix)
    → size_of_digits (length digits) ≡ Some size → hex_value_of digits ≡ Some prefix
    → make_block size prefix ≡ Some block → Writes digits block
from_parts digits size prefix block s v m =
    let value =
    if_true (list_all (λ digit. is_digit digit 16) digits) (digits_value 16 digits) prefix v in
    let made = if_true (is_block (sized size prefix)) (sized size prefix) block m in
    let w : Writes digits (sized size prefix) = record {
      count = count_of (length digits) size s;
      hexadecimal =
          λ k d lt. digit_below (get_or digits k d)
          (AllPass-from_list_all (λ digit. is_digit digit 16) digits value.0 k d lt);
      value = value.1;
      form = made.0;
    } in
    subst (λ (b : SizedPrefix). Writes digits b) made.1 w

writes : (digits : List ℕ) (block : SizedPrefix) → read_block digits ≡ Some block
    → Writes digits block
writes digits block e =
    let first =
    chain (λ size. option_and_then (λ prefix. make_block size prefix) (hex_value_of digits))
    (size_of_digits (length digits)) block e in
    let second = chain (λ prefix. make_block first.0 prefix) (hex_value_of digits) block first.2 in
    from_parts digits first.0 second.0 block first.1 second.1 second.2

reads : (digits : List ℕ) (block : SizedPrefix) → Writes digits block
    → read_block digits ≡ Some block
reads digits block w =
    let all : list_all (λ digit. is_digit digit 16) digits ≡ true =
    list_all-from_AllPass (λ digit. is_digit digit 16) digits
    (λ k d lt. below_digit (get_or digits k d) (w.hexadecimal k d lt)) in
    let form : is_block block ≡ true = w.form in
    rw (size_of (length digits) block.size w.count, all, w.value, form) refl

pub read_block-is_exact : (digits : List ℕ) (block : SizedPrefix)
    → (read_block digits ≡ Some block) ↔ Writes digits block
read_block-is_exact digits block = (writes digits block, reads digits block)
