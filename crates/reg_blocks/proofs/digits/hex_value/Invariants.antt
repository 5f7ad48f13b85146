use Rattle.reg_blocks.proofs.HexDigits.{IsRead}
use Rattle.reg_blocks.proofs.digits.hex_value.Given as goal

abbrev pub invariant-loop-digit : goal.invariant-loop-digit
invariant-loop-digit l = IsRead l.digits l.digit-index l.value
