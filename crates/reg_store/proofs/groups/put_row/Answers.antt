use Rattle.std.proofs.Common.{cond, sym, ap, ◌∙◌, rules}
use Rattle.std.specs.Prelude.{Some, None}
use Rattle.std.specs.BTreeMap as tree
use Rattle.std.specs.Map.{lookup}
use Rattle.reg_maps.proofs.FiniteMaps.Nested.{get-group, pair_map-insert, pair_map-same}
use Rattle.reg_maps.proofs.Outcomes.{any_err}
use Rattle.reg_store.proofs.groups.put_row.Goals as goal

-- ---- Into a group

pub returns-in_ok-insert-in-Some-clause-ok : goal.returns-in_ok-insert-in-Some-clause-ok
returns-in_ok-insert-in-Some-clause-ok g c =
    let group = c.insert.new.self in
    let new = c.get_mut.follows.lender group in
    pair_map-insert g.met.A.Key.order g.met.B.Key.order c.args.groups.now new
    (search rules) (search rules) c.args.first (Some c.in-Some.group.now) group
    (sym c.in-Some.ensures.value) ((c.get_mut.follows.holds group).3 (search rules)).0
    c.args.second c.args.row c.in_ok-insert-in-Some.ensures.updates.0

pub returns-in_err-insert-in-Some-clause-err : goal.returns-in_err-insert-in-Some-clause-err
returns-in_err-insert-in-Some-clause-err g c =
    let group = c.insert.new.self in
    let new = c.get_mut.follows.lender group in
    any_err c.from_residual.result
    (pair_map-same g.met.A.Key.order g.met.B.Key.order c.args.groups.now new
    (search rules) (search rules) c.args.first (Some c.in-Some.group.now) group
    (sym c.in-Some.ensures.value) ((c.get_mut.follows.holds group).3 (search rules)).0
    (λ b. ap (lookup (tree.is_at (g.B.Ord.cmp b))) c.in_err-insert-in-Some.ensures.err))

pub returns-in_err-insert-in-Some-clause-absent : goal.returns-in_err-insert-in-Some-clause-absent
returns-in_err-insert-in-Some-clause-absent g c =
    any_err c.from_residual.result
    (get-group g.met.A.Key.order g.met.B.Key.order c.args.groups.now (search rules)
    c.args.first (Some c.in-Some.group.now) (sym c.in-Some.ensures.value) c.args.second
    ∙ c.in_err-insert-in-Some.ensures.absent)

-- ---- Into a new group

pub returns-in_ok-insert-in-None-2-clause-ok : goal.returns-in_ok-insert-in-None-2-clause-ok
returns-in_ok-insert-in-None-2-clause-ok g c =
    let group = c.insert-in-None.new.self in
    let at_first = λ (a : g.row.A.Denot). tree.is_at (g.A.Ord.cmp c.args.first) a in
    let at_second = λ (b : g.row.B.Denot). tree.is_at (g.B.Ord.cmp c.args.second) b in
    pair_map-insert g.met.A.Key.order g.met.B.Key.order c.args.groups.now
    c.insert-in-None-2.new.self (search rules) (search rules) c.args.first None group
    (sym c.in-None.ensures.value)
    (λ a. c.in_ok-insert-in-None-2.ensures.updates.0 a
    ∙ ap (λ m. cond (at_first a) (Some group)
    (tree.get g.A.Ord.cmp m a)) c.get_mut.follows.holds-at-none)
    c.args.second c.args.row
    (λ b. c.in_ok-insert-in-None.ensures.updates.0 b
    ∙ ap (λ rows. cond (at_second b) (Some c.args.row) (lookup (tree.is_at (g.B.Ord.cmp b)) rows))
    c.new-group.ensures.empty)

pub returns-in_err-insert-in-None-clause-absent : goal.returns-in_err-insert-in-None-clause-absent
returns-in_err-insert-in-None-clause-absent g c =
    any_err c.from_residual-in_err-insert-in-None.result
    (get-group g.met.A.Key.order g.met.B.Key.order c.args.groups.now (search rules)
    c.args.first None (sym c.in-None.ensures.value) c.args.second)

pub returns-in_err-insert-in-None-2-clause-absent :
    goal.returns-in_err-insert-in-None-2-clause-absent
returns-in_err-insert-in-None-2-clause-absent g c =
    any_err c.from_residual-in_err-insert-in-None-2.result
    (get-group g.met.A.Key.order g.met.B.Key.order c.args.groups.now (search rules)
    c.args.first None (sym c.in-None.ensures.value) c.args.second)
