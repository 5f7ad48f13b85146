use Rattle.std.proofs.Common.{map}
use Rattle.reg_pages.specs.Markup.{all_of, markup_then}
use Rattle.reg_site.specs.Index.{prefix_item}
use Rattle.reg_pages.proofs.Pieces.{Leads, from_place}
use Rattle.reg_site.proofs.index.push_prefixes.Given as goal

abbrev pub invariant-loop-prefix : goal.invariant-loop-prefix
invariant-loop-prefix l =
    Leads l.fn.out.items l.out.items
    (from_place (λ ps. all_of (map prefix_item ps)) l.prefixes l.prefix-index)
    (markup_then (all_of (map prefix_item l.prefixes)))
