use Rattle.std.proofs.Common.{[], map, refl, rules}
use Rattle.reg_pages.specs.Markup.{markup_then}
use Rattle.reg_site.specs.Changes.{change_rows, row_behind, shown}
use Rattle.reg_pages.proofs.Pieces.{begins, ends, goes_to, joined, shown as as_shown}
use Rattle.reg_site.proofs.changes.push_rows.Goals as goal

pub loop-change-init : goal.loop-change-init
loop-change-init c = record {
  leads =
      begins c.args.out.now.items (markup_then (change_rows [] (map shown c.args.changes.now)));
  text = search rules;
}

pub loop-change-preserved : goal.loop-change-preserved
loop-change-preserved c = record {
  leads =
      goes_to (λ before cs. change_rows before (map shown cs)) (λ before change. row_behind before (shown change))
      (λ change. change.month.now) (λ before x xs. refl) c.loop-change.before.now c.args.changes.now
      c.loop-change.change-index _ c.loop-change-test.true c.loop-change.invariant.leads
      (as_shown (joined c.in_ok-push_month.ensures.bytes c.in_ok-push_row.ensures.bytes));
  text = search rules;
}

pub returns : goal.returns
returns c =
    ends (λ cs. change_rows c.loop-change.before.now (map shown cs)) refl c.args.changes.now
    c.loop-change.change-index c.loop-change-test.false c.loop-change.invariant.leads
