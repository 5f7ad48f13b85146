use Rattle.std.proofs.Common.{◌≡◌, filter, take}
use Rattle.reg_pages.specs.Blocks.{same_size}
use Rattle.reg_pages.proofs.blocks.rows_of.Given as goal

abbrev pub invariant-loop-row : goal.invariant-loop-row
invariant-loop-row l =
    l.of_size.items ≡ filter (λ r. same_size r.block.size l.size) (take l.row-index l.rows)
