use Rattle.std.proofs.Common.{map}
use Rattle.reg_pages.specs.Markup.{all_of, markup_then}
use Rattle.reg_site.specs.Registry.{range_row}
use Rattle.reg_pages.proofs.Pieces.{Leads, from_place}
use Rattle.reg_site.proofs.registry.push_range_rows.Given as goal

abbrev pub invariant-loop-range : goal.invariant-loop-range
invariant-loop-range l =
    Leads l.fn.out.items l.out.items
    (from_place (λ rs. all_of (map range_row rs)) l.ranges l.range-index)
    (markup_then (all_of (map range_row l.ranges)))
