use Rattle.std.proofs.Common.{length, ◌↔◌}
use Rattle.reg_statements.specs.Loading.{IsAscending}
use Rattle.reg_statements.proofs.select.are_ascending.Given as goal

abbrev pub invariant-rows : goal.invariant-rows
invariant-rows g l = IsAscending g.T.Keyed.order l.rows ↔ IsAscending g.T.Keyed.order l.fn.rows

abbrev pub decreases-rows : goal.decreases-rows
decreases-rows g l = length l.rows
