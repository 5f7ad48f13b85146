use Rattle.reg_maps.proofs.FiniteMaps.Ordered.{finite_map-insert}
use Rattle.reg_store.proofs.maps.set_row.Goals as goal

pub returns-clause-ok : goal.returns-clause-ok
returns-clause-ok g c =
    finite_map-insert g.met.K.Key.order c.args.map.now c.insert.new.self
    c.args.key c.args.row c.in_ok-insert.ensures.updates.0
