use Rattle.std.proofs.Common.{◌++◌, [], ◌∷◌, sym, ap, ◌∙◌, rules}
use Rattle.std.specs.Prelude.{Some, None}
use Rattle.std.specs.FinMap.{get}
use Rattle.reg_maps.specs.Groups.{pair_map}
use Rattle.reg_maps.proofs.FiniteMaps.Nested.{get-group, pair_map-insert}
use Rattle.reg_maps.proofs.MapLaws.{pair_keys}
use Rattle.reg_maps.proofs.Outcomes.{any_err}
use Rattle.reg_store.specs.Maps.{items_of, list_at}
use Rattle.reg_store.proofs.ListLaws.{more-put, not_there, same-put}
use Rattle.reg_store.proofs.groups.push_item.Goals as goal

pub returns-in_ok-push-clause-ok : goal.returns-in_ok-push-clause-ok
returns-in_ok-push-clause-ok g c =
    let a = g.met.A.Key.order in
    let b = g.met.B.Key.order in
    let old = pair_map g.A.Ord.cmp g.B.Ord.cmp c.args.groups.now in
    let list = c.push.new.self in
    let group = c.get_mut-in-Some.follows.lender list in
    let new = c.get_mut.follows.lender group in
    let put = pair_map-insert a b c.args.groups.now new (search rules) (search rules)
    c.args.first.now (Some c.in-Some.group.now) group (sym c.in-Some.ensures.value)
    ((c.get_mut.follows.holds group).3 (search rules)).0 c.args.second.now list
    ((c.get_mut-in-Some.follows.holds list).3 (search rules)).0 in
    let there = get-group a b c.args.groups.now (search rules) c.args.first.now
    (Some c.in-Some.group.now) (sym c.in-Some.ensures.value) c.args.second.now
    ∙ sym c.in-Some-get_mut.ensures.value in
    λ key.
    ap (λ lists. list_at lists key) put
    ∙ more-put (pair_keys a b) old (c.args.first.now, c.args.second.now) list c.args.item
    (c.in_ok-push.ensures.items
    ∙ ap (λ row. items_of row ++ c.args.item ∷ []) (sym there)) key

pub returns-in_err-push-clause-err : goal.returns-in_err-push-clause-err
returns-in_err-push-clause-err g c =
    let a = g.met.A.Key.order in
    let b = g.met.B.Key.order in
    let old = pair_map g.A.Ord.cmp g.B.Ord.cmp c.args.groups.now in
    let list = c.push.new.self in
    let group = c.get_mut-in-Some.follows.lender list in
    let new = c.get_mut.follows.lender group in
    let put = pair_map-insert a b c.args.groups.now new (search rules) (search rules)
    c.args.first.now (Some c.in-Some.group.now) group (sym c.in-Some.ensures.value)
    ((c.get_mut.follows.holds group).3 (search rules)).0 c.args.second.now list
    ((c.get_mut-in-Some.follows.holds list).3 (search rules)).0 in
    let there = get-group a b c.args.groups.now (search rules) c.args.first.now
    (Some c.in-Some.group.now) (sym c.in-Some.ensures.value) c.args.second.now
    ∙ sym c.in-Some-get_mut.ensures.value in
    any_err c.from_residual.result (λ key.
    ap (λ lists. list_at lists key) put
    ∙ same-put (pair_keys a b) old (c.args.first.now, c.args.second.now) list
    (c.in_err-push.ensures.items ∙ ap items_of (sym there)) key)

pub returns-in_default-get_mut-clause-ok : goal.returns-in_default-get_mut-clause-ok
returns-in_default-get_mut-clause-ok g c =
    not_there (get (pair_map g.A.Ord.cmp g.B.Ord.cmp c.args.groups.now)
    (c.args.first.now, c.args.second.now)) c.requires
    (get-group g.met.A.Key.order g.met.B.Key.order c.args.groups.now (search rules)
    c.args.first.now (Some c.in-Some.group.now) (sym c.in-Some.ensures.value) c.args.second.now
    ∙ sym c.in_default-get_mut.ensures.value)

pub returns-in_default-clause-ok : goal.returns-in_default-clause-ok
returns-in_default-clause-ok g c =
    not_there (get (pair_map g.A.Ord.cmp g.B.Ord.cmp c.args.groups.now)
    (c.args.first.now, c.args.second.now)) c.requires
    (get-group g.met.A.Key.order g.met.B.Key.order c.args.groups.now (search rules)
    c.args.first.now None (sym c.in_default.ensures.value) c.args.second.now)
