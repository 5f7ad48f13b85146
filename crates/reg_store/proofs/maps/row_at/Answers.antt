use Rattle.std.proofs.Common.{sym, ◌∙◌}
use Rattle.reg_maps.proofs.FiniteMaps.Ordered.{get-finite_map}
use Rattle.reg_store.proofs.maps.row_at.Goals as goal

pub returns : goal.returns
returns g c =
    c.get.ensures.value ∙ sym (get-finite_map g.met.K.Key.order c.args.map.now c.args.key.now)
