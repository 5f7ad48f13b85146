use Rattle.std.proofs.Common.{◌≡◌, map, take}
use Rattle.reg_rows.proofs.acts.acts_in.Given as goal

abbrev pub invariant-loop-row : goal.invariant-loop-row
invariant-loop-row l = l.acts.items ≡ map (λ n. n.act) (take l.row-index l.rows)
