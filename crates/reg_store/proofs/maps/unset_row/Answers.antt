use Rattle.reg_maps.proofs.FiniteMaps.Ordered.{finite_map-remove}
use Rattle.reg_store.proofs.maps.unset_row.Goals as goal

pub returns : goal.returns
returns g c =
    finite_map-remove g.met.K.Key.order c.args.map.now c.remove.new.self
    c.args.key.now c.remove.ensures.updates.0
