use Rattle.std.proofs.Common.{ℕ, take, ◌↔◌}
use Rattle.std.specs.Prelude.{Contains}
use Rattle.reg_rows.proofs.pool.pool_of.Given as goal

abbrev pub invariant-loop-prefix : goal.invariant-loop-prefix
invariant-loop-prefix l =
    (q : ℕ) → Contains l.pool q ↔ Contains (take l.prefix-index l.prefixes) q
