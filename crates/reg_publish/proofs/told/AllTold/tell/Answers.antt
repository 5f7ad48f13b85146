use Rattle.std.proofs.Common.{◌++◌, map, sym, ap, ◌∙◌}
use Rattle.std.specs.List.{flat_map}
use Rattle.reg_history.specs.Published.{block_fact, page_facts, prefix_fact}
use Rattle.reg_history.proofs.Taken.{took_as, took_both}
use Rattle.reg_publish.specs.Told.{blocks_of, pages_of, prefixes_of}
use Rattle.reg_publish.proofs.told.AllTold.tell.Goals as goal

pub returns : goal.returns
returns g c =
    let Awaits = g.T.Takes.Awaits in
    let t = c.args.taker.now in
    let t1 = c.tell_pages.new.taker in
    let t2 = c.take_prefixes.new.taker in
    let t3 = c.take_blocks.new.taker in
    let told = flat_map page_facts (pages_of c.as_slice.result.now) in
    let pooled = map prefix_fact c.prefixes.result.now in
    let given = map (λ row. block_fact row.block) c.in_ok-blocks_in.field-0.now in
    let by_pages = c.as_slice.ensures.value in
    let by_pool = c.prefixes.ensures.value ∙ sym (ap prefixes_of c.in_ok-pool_in.ensures) in
    let by_rows = sym (ap blocks_of c.in_ok-blocks_in.ensures) in
    took_as Awaits t t3 (told ++ (pooled ++ given)) _
    (λ i. flat_map page_facts (pages_of (by_pages i))
    ++ (map prefix_fact (by_pool i) ++ map (λ row. block_fact row.block) (by_rows i)))
    (took_both Awaits t t1 t3 told (pooled ++ given) c.in_ok-tell_pages.ensures
    (took_both Awaits t1 t2 t3 pooled given c.in_ok-take_prefixes.ensures
    c.in_ok-take_blocks.ensures))
