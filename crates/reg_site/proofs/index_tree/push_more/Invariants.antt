use Rattle.std.proofs.Common.{map}
use Rattle.reg_pages.proofs.Pieces.{Leads, bytes_from}
use Rattle.reg_site.specs.IndexTree.{more_then, row_of}
use Rattle.reg_site.proofs.index_tree.push_more.Given as goal

abbrev pub invariant-loop-row : goal.invariant-loop-row
invariant-loop-row l =
    Leads l.fn.out.items l.out.items
    (bytes_from (λ rows. more_then (map row_of rows)) l.rows l.row-index)
    (more_then (map row_of l.rows))
