use Rattle.std.proofs.Common.{◌≡◌, cond, refl, sym, ap, subst, ◌∙◌, rules}
use Rattle.std.specs.Prelude.{Some}
use Rattle.std.specs.BTreeMap as tree
use Rattle.reg_maps.specs.Maps.{finite_map}
use Rattle.reg_maps.proofs.FiniteMaps.Ordered.{finite_map-update, finite_map-absent}
use Rattle.reg_store.proofs.maps.change_at.Goals as goal

pub returns-in-Some : goal.returns-in-Some
returns-in-Some g c = λ f computes.
    let old = c.in-Some.row in
    let left = c.change.new.arg2 in
    let changed : left ≡ f old.now = computes old.now left (record {
      shown = old;
      shows = refl;
      left = record { ref_ptr = old.ref_ptr; ghost_name = old.ghost_name; now = left };
      met = c.change.ensures;
      leaves = refl;
    }) in
    finite_map-update g.met.K.Key.order c.args.map.now (c.get_mut.follows.lender left)
    c.args.key.now f old.now (sym c.in-Some.ensures.value)
    (subst (λ v. (q : g.row.K.Denot) → tree.get g.K.Ord.cmp (c.get_mut.follows.lender left) q
    ≡ cond (tree.is_at (g.K.Ord.cmp c.args.key.now) q) (Some v)
    (tree.get g.K.Ord.cmp c.args.map.now q))
    changed ((c.get_mut.follows.holds left).3 (search rules)).0)

-- what is not there stays so
pub returns-in_default : goal.returns-in_default
returns-in_default g c = λ f computes.
    ap (finite_map g.K.Ord.cmp) c.get_mut.follows.holds-at-none
    ∙ sym (finite_map-absent g.met.K.Key.order c.args.map.now c.args.key.now f
    (sym c.in_default.ensures.value))
