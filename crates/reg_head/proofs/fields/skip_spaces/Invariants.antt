use Rattle.std.proofs.Common.{◌≡◌, length}
use Rattle.reg_head.specs.Fields.{skip_spaces}
use Rattle.reg_head.proofs.fields.skip_spaces.Given as goal

abbrev pub invariant-loop-rest : goal.invariant-loop-rest
invariant-loop-rest l = skip_spaces l.rest ≡ skip_spaces l.fn.value

abbrev pub decreases-loop-rest : goal.decreases-loop-rest
decreases-loop-rest l = length l.rest
