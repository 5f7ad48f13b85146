use Rattle.std.proofs.Common.{map, refl}
use Rattle.reg_pages.proofs.Pieces.{begins, bytes_end, bytes_go_on}
use Rattle.reg_site.specs.IndexTree.{more_then, next_then, row_of}
use Rattle.reg_site.proofs.index_tree.push_more.Goals as goal

pub loop-row-init : goal.loop-row-init
loop-row-init c = begins c.args.out.now.items (more_then (map row_of c.args.rows.now))

pub loop-row-preserved : goal.loop-row-preserved
loop-row-preserved c =
    bytes_go_on (λ rows. more_then (map row_of rows)) (λ row. next_then (row_of row))
    (λ x xs rest. refl) c.args.rows.now c.loop-row.row-index c.row-item.result c.loop-row-test.true
    c.row-item.is c.loop-row.invariant c.in_ok-push_next.ensures

pub returns : goal.returns
returns c =
    bytes_end (λ rows. more_then (map row_of rows)) (λ rest. refl) c.args.rows.now
    c.loop-row.row-index c.loop-row-test.false c.loop-row.invariant
