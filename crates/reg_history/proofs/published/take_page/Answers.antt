use Rattle.std.proofs.Common.{◌++◌, map, ◌∙◌}
use Rattle.reg_history.specs.Published.{entry_fact, range_fact}
use Rattle.reg_history.proofs.Taken.{took_as, took_both}
use Rattle.reg_history.proofs.published.take_page.Goals as goal

pub returns : goal.returns
returns g c =
    let Awaits = g.T.Takes.Awaits in
    let t = c.args.taker.now in
    let t1 = c.take_ranges.new.taker in
    let t2 = c.take_entries.new.taker in
    let ranges = map (range_fact c.in_ok-registry.registry) c.ranges-2.result.now in
    let entries = map (entry_fact c.in_ok-registry.registry) c.as_slice.result.now in
    let by_name = c.in_ok-registry.ensures ∙ c.as_str.ensures.text in
    let by_ranges = c.ranges-2.ensures.ranges in
    let by_entries = c.as_slice.ensures in
    took_as Awaits t t2 (ranges ++ entries) _
    (λ i. map (range_fact (by_name i)) (by_ranges i) ++ map (entry_fact (by_name i)) (by_entries i))
    (took_both Awaits t t1 t2 ranges entries c.in_ok-take_ranges.ensures c.in_ok-take_entries.ensures)
