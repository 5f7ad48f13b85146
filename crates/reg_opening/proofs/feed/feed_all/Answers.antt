use Rattle.std.proofs.Common.{◌≡◌, ◌++◌, ◌∷◌, [], map, ap, sym, subst, ◌∙◌, arith, rules}
use Rattle.std.proofs.lemmas.List.{append_assoc}
use Rattle.reg_opening.specs.Feeding.{FeedsRows}
use Rattle.reg_opening.proofs.Feeding.{feeds_none, feeds_more}
use Rattle.reg_opening.proofs.feed.feed_all.Goals as goal

pub values-init : goal.values-init
values-init g c = ([], search rules, feeds_none _)

pub values-smaller : goal.values-smaller
values-smaller g c = omega (arith, c.in-Some.ensures.len)

pub values-preserved : goal.values-preserved
values-preserved g c =
    let was = c.values.invariant in
    let fed = subst (FeedsRows c.args.audit.now c.feed.new.self)
    (ap (λ row. row ∷ map g.T.Fed.row_of was.0) c.row.ensures)
    (feeds_more _ _ _ c.row.result _ _ was.2 c.in_ok-feed.ensures.feeds) in (
      c.in-Some.value ∷ was.0,
      was.1 ∙ ap (λ items. items ++ was.0) c.in-Some.ensures.items ∙ append_assoc c.pop.new.self.items (c.in-Some.value ∷ []) was.0,
      fed,
    )

pub returns-clause-feeds : goal.returns-clause-feeds
returns-clause-feeds g c =
    let was = c.values.invariant in
    let none : c.values.values.items ≡ [] = search rules in
    let all = was.1 ∙ ap (λ items. items ++ was.0) none in
    subst (λ items. FeedsRows c.args.audit.now c.values.audit (map g.T.Fed.row_of items)) (sym all) was.2
