use Rattle.std.proofs.Common.{map, refl}
use Rattle.reg_pages.specs.Markup.{all_of, markup_then}
use Rattle.reg_site.specs.Registry.{range_row}
use Rattle.reg_pages.proofs.Pieces.{begins, ends, goes_on}
use Rattle.reg_site.proofs.registry.push_range_rows.Goals as goal

pub loop-range-init : goal.loop-range-init
loop-range-init c =
    begins c.args.out.now.items
    (markup_then (all_of (map range_row c.args.ranges.now)))

pub loop-range-preserved : goal.loop-range-preserved
loop-range-preserved c =
    goes_on (λ rs. all_of (map range_row rs)) (range_row) (λ x xs. refl) c.args.ranges.now
    c.loop-range.range-index c.range-item.result c.loop-range-test.true c.range-item.is c.loop-range.invariant
    c.in_ok-push_range.ensures

pub returns : goal.returns
returns c =
    ends (λ rs. all_of (map range_row rs)) refl c.args.ranges.now c.loop-range.range-index c.loop-range-test.false
    c.loop-range.invariant
