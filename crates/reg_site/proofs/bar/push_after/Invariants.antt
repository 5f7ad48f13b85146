use Rattle.std.proofs.Common.{map}
use Rattle.reg_pages.specs.Markup.{all_of, markup_then}
use Rattle.reg_site.specs.Bar.{entry_part, merged, part}
use Rattle.reg_pages.proofs.Pieces.{Leads}
use Rattle.reg_site.proofs.Merging.{parts_left}
use Rattle.reg_site.proofs.bar.push_after.Given as goal

abbrev pub invariant-loop-entry : goal.invariant-loop-entry
invariant-loop-entry l =
    Leads l.fn.out.items l.out.items (parts_left l.most l.last l.others l.entry-index)
    (markup_then (all_of (map part (merged l.fn.first (map (entry_part l.most) l.others)))))
