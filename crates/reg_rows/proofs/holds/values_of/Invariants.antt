use Rattle.std.proofs.Common.{◌≡◌, ℕ}
use Rattle.std.specs.BTreeSet as set
use Rattle.std.specs.Ordering.{nat_cmp}
use Rattle.reg_rows.specs.Marks.{is_among}
use Rattle.reg_rows.proofs.holds.values_of.Given as goal

abbrev pub invariant-loop-mark : goal.invariant-loop-mark
invariant-loop-mark l =
    (value : ℕ) → set.contains nat_cmp l.values value ≡ is_among l.yielded value
