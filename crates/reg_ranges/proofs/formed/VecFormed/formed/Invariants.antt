use Rattle.std.proofs.Common.{◌≡◌, true, take}
use Rattle.std.specs.List.{list_all}
use Rattle.reg_ranges.proofs.formed.VecFormed.formed.Given as goal

abbrev pub invariant-loop-value : goal.invariant-loop-value
invariant-loop-value g l = list_all g.T.Formed.has_form (take l.value-index l.value-items) ≡ true
