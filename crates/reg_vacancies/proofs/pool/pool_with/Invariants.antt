use Rattle.std.proofs.Common.{◌≡◌, map}
use Rattle.std.specs.Map.Iter.{deref}
use Rattle.reg_vacancies.specs.Pool.{prefix_set}
use Rattle.reg_vacancies.proofs.pool.pool_with.Given as goal

abbrev pub invariant-loop-prefix : goal.invariant-loop-prefix
invariant-loop-prefix l = prefix_set l.pool ≡ prefix_set (map deref l.yielded)
