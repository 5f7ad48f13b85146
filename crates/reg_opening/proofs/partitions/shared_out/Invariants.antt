use Rattle.std.proofs.Common.{◌≡◌, ◌++◌, length}
use Rattle.reg_opening.specs.Partitions.{left_over, shared_out}
use Rattle.reg_opening.proofs.partitions.shared_out.Given as goal

abbrev pub invariant-registries : goal.invariant-registries
invariant-registries g l =
    (shared_out l.fn.registries l.fn.rows ≡ l.shares.items ++ shared_out l.registries l.rows)
    × (left_over l.fn.registries l.fn.rows ≡ left_over l.registries l.rows)

abbrev pub decreases-registries : goal.decreases-registries
decreases-registries g l = length l.registries
