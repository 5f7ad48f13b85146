use Rattle.std.proofs.Common.{◌≡◌, min, take}
use Rattle.reg_head.specs.Fields.{number_from}
use Rattle.reg_head.proofs.fields.capped.Given as goal

abbrev pub invariant-loop-b : goal.invariant-loop-b
invariant-loop-b l = l.n ≡ min (number_from 0 (take l.b-index l.value)) 65537
