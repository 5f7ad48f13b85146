use Rattle.std.proofs.Common.{◌++◌, sym, ap}
use Rattle.std.specs.List.{flat_map}
use Rattle.std.specs.Option.{option_copied}
use Rattle.reg_history.specs.Chain.{chained}
use Rattle.reg_pages.specs.Noted.{apply_lines, noted_in}
use Rattle.reg_pages.specs.Notes.{authority}
use Rattle.reg_site.specs.Site.{block_files, change_files, page_files, pool_files}
use Rattle.reg_publish.specs.Told.{blocks_of, pages_of, prefixes_of}
use Rattle.reg_publish.proofs.Placed.{summed_as, summed_both}
use Rattle.reg_publish.proofs.publishing.publish_shown.Goals as goal

pub returns : goal.returns
returns g c = λ records is.
    let Puts = g.F.Folder.Puts in
    let notes = option_copied c.args.notes in
    let digests = (chained records).digests in
    let f = c.args.folder.now in
    let f1 = c.publish_registries.new.folder in
    let f2 = c.publish_blocks.new.folder in
    let f3 = c.publish_pool.new.folder in
    let f4 = c.publish_changes.new.folder in
    let s = c.args.sums.now in
    let s1 = c.publish_registries.new.sums in
    let s2 = c.publish_blocks.new.sums in
    let s3 = c.publish_pool.new.sums in
    let s4 = c.publish_changes.new.sums in
    let lines = apply_lines notes in
    let rows = c.in_ok-blocks_in.field-0.now in
    let prefixes = c.in_ok-pool_in.field-0.now in
    let told = flat_map (page_files notes records) (pages_of c.as_slice.result.now) in
    let given = block_files lines rows in
    let pooled = pool_files prefixes in
    let changed = change_files lines (noted_in notes authority) records digests in
    let by_pages = c.as_slice.ensures.value in
    let by_rows = sym (ap blocks_of c.in_ok-blocks_in.ensures) in
    let by_pool = sym (ap prefixes_of c.in_ok-pool_in.ensures) in
    summed_as Puts f f4 s s4 (told ++ (given ++ (pooled ++ changed))) _
    (λ i. flat_map (page_files notes records) (pages_of (by_pages i))
    ++ (block_files lines (by_rows i) ++ (pool_files (by_pool i) ++ changed)))
    (summed_both Puts f f1 f4 s s1 s4 told (given ++ (pooled ++ changed))
    (c.in_ok-publish_registries.ensures records is)
    (summed_both Puts f1 f2 f4 s1 s2 s4 given (pooled ++ changed) c.in_ok-publish_blocks.ensures
    (summed_both Puts f2 f3 f4 s2 s3 s4 pooled changed c.in_ok-publish_pool.ensures
    (c.in_ok-publish_changes.ensures records is))))
