use Rattle.std.proofs.Common.{◌≡◌, ◌-◌, ◌*◌, ◌/◌, ◌^◌, ◌≤◌, string_bytes}
use Rattle.reg_blocks.specs.Digits.{hex_digits}
use Rattle.reg_blocks.proofs.digits.hex_text.Given as goal

abbrev pub invariant-loop-left : goal.invariant-loop-left
invariant-loop-left l = record {
  within : l.left ≤ l.count;
  written : string_bytes l.text ≡ hex_digits (l.count - l.left) (l.n / 2 ^ (4 * l.left));
}

abbrev pub decreases-loop-left : goal.decreases-loop-left
decreases-loop-left l = l.left
