use Rattle.std.proofs.Common.{sym, ap, ◌∙◌, ◌++◌, map}
use Rattle.reg_maps.proofs.FiniteMaps.InOrder.{map-group_rows}
use Rattle.reg_store.proofs.groups.list_group.Goals as goal

pub returns : goal.returns
returns g c = λ f computes.
    let first = c.args.first.now in
    let rows = c.in-Some.group.now.entries in
    c.in_ok-push_rows.ensures (λ second. f (first, second)) computes
    ∙ ap (λ made. made ++ map (λ e. f (first, e.0) e.1) rows) c.in_ok-made.ensures.items
    ∙ sym (ap (map (λ e. f e.0 e.1)) c.in-Some.ensures.rows ∙ map-group_rows f first rows)
