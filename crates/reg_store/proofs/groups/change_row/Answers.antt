use Rattle.std.proofs.Common.{refl, sym, ap, ◌∙◌, rules}
use Rattle.std.specs.Prelude.{Some, None}
use Rattle.reg_maps.specs.Groups.{pair_map}
use Rattle.reg_maps.proofs.FiniteMaps.Nested.{get-group, pair_map-change, update-absent}
use Rattle.reg_store.proofs.groups.change_row.Goals as goal

pub returns-in-Some : goal.returns-in-Some
returns-in-Some g c = λ f computes.
    let group = c.change_at.new.map in
    pair_map-change g.met.A.Key.order g.met.B.Key.order c.args.groups.now
    (c.get_mut.follows.lender group)
    (search rules) (search rules) c.args.first.now (Some c.in-Some.group.now) group
    (sym c.in-Some.ensures.value) ((c.get_mut.follows.holds group).3 (search rules)).0
    c.args.second.now f c.in-Some.group.now refl (c.change_at.ensures f computes)

-- what is not there stays so
pub returns-in_default : goal.returns-in_default
returns-in_default g c = λ f computes.
    ap (pair_map g.A.Ord.cmp g.B.Ord.cmp) c.get_mut.follows.holds-at-none
    ∙ sym (update-absent g.met.A.Key.order g.met.B.Key.order c.args.groups.now
    (c.args.first.now, c.args.second.now) f
    (get-group g.met.A.Key.order g.met.B.Key.order c.args.groups.now
    (search rules) c.args.first.now None
    (sym c.in_default.ensures.value) c.args.second.now))
