use Rattle.std.proofs.Common.{map}
use Rattle.reg_pages.specs.Markup.{all_of, markup_then}
use Rattle.reg_site.specs.Changes.{change_entry, shown}
use Rattle.reg_pages.proofs.Pieces.{Leads, from_place}
use Rattle.reg_site.proofs.changes.push_entries.Given as goal

abbrev pub invariant-loop-change : goal.invariant-loop-change
invariant-loop-change l =
    Leads l.fn.out.items l.out.items
    (from_place (λ cs. all_of (map change_entry (map shown cs))) l.changes l.change-index)
    (markup_then (all_of (map change_entry (map shown l.changes))))
