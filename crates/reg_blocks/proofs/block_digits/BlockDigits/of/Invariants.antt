use Rattle.std.proofs.Common.{◌≡◌, ◌-◌, ◌*◌, ◌/◌, ◌^◌, length, take}
use Rattle.reg_blocks.specs.Digits.{hex_digits}
use Rattle.reg_blocks.proofs.block_digits.BlockDigits.of.Given as goal

-- the first so many digits are written
abbrev pub invariant-loop-place : goal.invariant-loop-place
invariant-loop-place l = record {
  room : length l.digits ≡ 9;
  written : take l.place l.digits ≡ hex_digits l.place (l.prefix / 2 ^ (4 * (l.count - l.place)));
}
