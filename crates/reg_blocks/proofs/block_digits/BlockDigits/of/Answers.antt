use Rattle.std.proofs.Common.{◌∙◌, length-set, refl, arith}
use Rattle.reg_blocks.specs.Digits.{hex_digits}
use Rattle.reg_blocks.proofs.WrittenDigits.{digit_more}
use Rattle.reg_blocks.proofs.block_digits.BlockDigits.of.Goals as goal

pub loop-place-init : goal.loop-place-init
unfolding hex_digits
loop-place-init c = record { room = refl; written = refl }

pub loop-place-preserved : goal.loop-place-preserved
loop-place-preserved c =
    let digits = c.loop-place.digits in
    let place = c.loop-place.place in
    let digit = c.upper_digit.result in
    let so_far = c.loop-place.invariant in
    record {
      room = length-set digits place digit ∙ so_far.room;
      written =
          digit_more digits c.digit_count-count.result place c.prefix-prefix.result digit
          c.loop-place-test.true (omega (arith, c.digit_count-count.ensures.most))
          so_far.written c.upper_digit.ensures.value;
    }
