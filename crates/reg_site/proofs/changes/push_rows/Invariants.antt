use Rattle.std.proofs.Common.{[], map}
use denote.Shadow.{shadow}
use denote.Text.{Utf8}
use Rattle.reg_pages.specs.Markup.{markup_then}
use Rattle.reg_site.specs.Changes.{change_rows, shown}
use Rattle.reg_pages.proofs.Pieces.{Leads, from_place}
use Rattle.reg_site.proofs.changes.push_rows.Given as goal

abbrev pub invariant-loop-change : goal.invariant-loop-change
invariant-loop-change l = record {
  leads : Leads l.fn.out.items l.out.items
      (from_place (λ cs. change_rows l.before (map shown cs)) l.changes l.change-index)
      (markup_then (change_rows [] (map shown l.changes)));
  text : shadow (Utf8 l.before);
}
