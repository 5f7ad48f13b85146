use Rattle.std.proofs.Common.{◌≡◌, ◌-◌, ◌++◌, ◌∙◌, ap, arith, string_bytes}
use Rattle.reg_blocks.specs.Digits.{hex_digits}
use Rattle.reg_blocks.proofs.HexDigits.{written_next}
use Rattle.reg_blocks.proofs.digits.hex_text.Goals as goal

pub loop-left-init : goal.loop-left-init
unfolding hex_digits
loop-left-init c =
    let none : c.args.count - c.args.count ≡ 0 = omega arith in
    record { within = omega arith; written = rw none c.in_ok-text.ensures.bytes }

pub loop-left-preserved : goal.loop-left-preserved
loop-left-preserved c =
    let pushed =
    c.in_ok-push.ensures.bytes
    ∙ ap (λ bytes. string_bytes c.loop-left.text ++ bytes)
    (c.in_ok-push.ensures.ascii (rw c.from.ensures c.upper_digit.ensures.ascii)) in
    record {
      within = omega arith;
      written =
          written_next _ c.loop-left.left _ c.from.result (string_bytes c.loop-left.text) _
          c.loop-left-test.true c.loop-left.invariant.within c.loop-left.invariant.written
          (c.from.ensures ∙ c.upper_digit.ensures.value) pushed;
    }
