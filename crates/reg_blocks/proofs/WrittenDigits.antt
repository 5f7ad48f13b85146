-- The digits of a block, written in place.
use Rattle.std.proofs.Common.{◌≡◌, ℕ, List, true, ◌+◌, ◌-◌, ◌*◌, ◌/◌, ◌%◌, ◌^◌, ◌<◌, length, take, set, arith}
use Rattle.std.proofs.lemmas.List.{take_more_set}
use Rattle.std.specs.Fmt.{digit_glyph}
use Rattle.reg_blocks.specs.Digits.{hex_digits}
use Rattle.reg_blocks.proofs.HexDigits.{written_more}

-- one digit more
pub digit_more : (digits : List ℕ) (count place n digit : ℕ) → place < count → place < length digits
    → take place digits ≡ hex_digits place (n / 2 ^ (4 * (count - place)))
    → digit ≡ digit_glyph true (n / 2 ^ (4 * (count - 1 - place)) % 16)
    → take (place + 1) (set digits place digit)
    ≡ hex_digits (place + 1) (n / 2 ^ (4 * (count - (place + 1))))
digit_more digits count place n digit within room before is =
    let left = count - 1 - place in
    let here : count - left ≡ place + 1 = omega arith in
    let past : count - (left + 1) ≡ place = omega arith in
    let ends : left + 1 ≡ count - place = omega arith in
    let next : count - (place + 1) ≡ left = omega arith in
    let more = rw (here, past, ends) at (written_more count left n (omega arith)) in
    rw next (cc (take_more_set digits place digit room, more, before, is))
