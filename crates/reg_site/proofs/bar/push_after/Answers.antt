use Rattle.std.proofs.Common.{◌≡◌, ◌+◌, ◌∙◌, true, false, map, ap, sym, subst}
use Rattle.reg_pages.specs.Markup.{all_of, markup_then}
use Rattle.reg_site.specs.Bar.{entry_part, joined, joins, merged, part}
use Rattle.reg_pages.proofs.Pieces.{Leads, begins}
use Rattle.reg_site.proofs.Merging.{comes_last, merges, parts_left, stands_apart}
use Rattle.reg_site.proofs.bar.push_after.Goals as goal
use Rattle.reg_site.proofs.bar.push_after.Goals.{then-joins, else-joins+in_ok-push_part}

pub loop-entry-init : goal.loop-entry-init
loop-entry-init c =
    begins c.args.out.now.items
    (markup_then (all_of (map part (merged c.args.first (map (entry_part c.args.most) c.args.others.now)))))

pub loop-entry-preserved : goal.loop-entry-preserved
loop-entry-preserved c =
    let most = c.args.most in
    let entries = c.args.others.now in
    let old = c.args.out.now.items in
    let i = c.loop-entry.entry-index in
    let last = c.loop-entry.last in
    let entry = c.entry-item.result in
    let all = markup_then (all_of (map part (merged c.args.first (map (entry_part most) entries)))) in
    let tested : c.joins.result ≡ joins last (entry_part most entry) =
    c.joins.ensures ∙ ap (joins last) c.entry_part-next.ensures in
    elim c.if-joins.branch [
      | then-joins w ↦
          let yes : joins last (entry_part most entry) ≡ true = sym tested ∙ w.if-joins.true in
          let now : c.if-joins.last ≡ joined last (entry_part most entry) =
          w.last-is ∙ w.joined-last.ensures ∙ ap (joined last) c.entry_part-next.ensures in
          subst (λ p. Leads old c.if-joins.out.items (parts_left most p entries (i + 1)) all) (sym now)
          (subst (λ o. Leads old o.items (parts_left most (joined last (entry_part most entry)) entries (i + 1)) all)
          (sym w.out-is)
          (merges most last entries i entry c.loop-entry-test.true c.entry-item.is yes
          c.loop-entry.invariant))
      | else-joins+in_ok-push_part w ↦
          let no : joins last (entry_part most entry) ≡ false = sym tested ∙ w.if-joins.false in
          let now : c.if-joins.last ≡ entry_part most entry = w.last-is ∙ c.entry_part-next.ensures in
          subst (λ p. Leads old c.if-joins.out.items (parts_left most p entries (i + 1)) all) (sym now)
          (subst (λ o. Leads old o.items (parts_left most (entry_part most entry) entries (i + 1)) all)
          (sym w.out-is)
          (stands_apart most last entries i entry c.loop-entry-test.true c.entry-item.is no
          c.loop-entry.invariant w.in_ok-push_part.ensures))
    ]

pub returns : goal.returns
returns c =
    comes_last c.args.most c.loop-entry.last c.args.others.now c.loop-entry.entry-index
    (merged c.args.first (map (entry_part c.args.most) c.args.others.now))
    c.loop-entry-test.false c.loop-entry.invariant c.in_ok-push_part-2.ensures
