use Rattle.std.proofs.Common.{sym, ap, ◌∙◌, rules}
use Rattle.std.specs.Prelude.{Some, None}
use Rattle.reg_maps.specs.Groups.{pair_map}
use Rattle.reg_maps.proofs.FiniteMaps.Nested.{get-group, pair_map-remove, remove-absent}
use Rattle.reg_store.proofs.groups.take_row.Goals as goal

pub returns-in-Some : goal.returns-in-Some
returns-in-Some g c =
    let group = c.remove.new.self in
    pair_map-remove g.met.A.Key.order g.met.B.Key.order c.args.groups.now
    (c.get_mut.follows.lender group)
    (search rules) (search rules) c.args.first.now (Some c.in-Some.group.now) group
    (sym c.in-Some.ensures.value) ((c.get_mut.follows.holds group).3 (search rules)).0
    c.args.second.now c.remove.ensures.updates.0

-- what is not there stays so
pub returns-in_default : goal.returns-in_default
returns-in_default g c =
    ap (pair_map g.A.Ord.cmp g.B.Ord.cmp) c.get_mut.follows.holds-at-none
    ∙ sym (remove-absent g.met.A.Key.order g.met.B.Key.order c.args.groups.now
    (c.args.first.now, c.args.second.now)
    (get-group g.met.A.Key.order g.met.B.Key.order c.args.groups.now
    (search rules) c.args.first.now None
    (sym c.in_default.ensures.value) c.args.second.now))
