use Rattle.std.proofs.Common.{◌++◌, ap, ◌∙◌}
use Rattle.std.specs.Option.{option_copied}
use Rattle.reg_history.specs.Chain.{chained}
use Rattle.reg_site.specs.Site.{index_files, one_file, rows_by, shown_files}
use Rattle.reg_site.specs.Sums.{entries_of, lines_of, with_sums}
use Rattle.reg_site.specs.declared.files.File.TheVariants.{Changes, Sums}
use Rattle.reg_publish.specs.Told.{blocks_of, pages_of, prefixes_of}
use Rattle.reg_publish.proofs.Placed.{places_as, places_both, places_summed, summed_as, summed_both}
use Rattle.reg_publish.proofs.publishing.publish_told.Goals as goal

pub returns : goal.returns
returns g c = λ records is.
    let Puts = g.F.Folder.Puts in
    let notes = option_copied c.args.notes in
    let digests = (chained records).digests in
    let pages = pages_of c.args.told.now.pages.items in
    let prefixes = prefixes_of c.args.told.now.pool in
    let rows = blocks_of c.args.told.now.blocks in
    let f = c.args.folder.now in
    let f1 = c.put_bytes.new.folder in
    let f2 = c.publish_shown.new.folder in
    let f3 = c.publish_last.new.folder in
    let f4 = c.put_sums.new.folder in
    let s = c.new-sums.result in
    let s1 = c.put_bytes.new.sums in
    let s2 = c.publish_shown.new.sums in
    let s3 = c.publish_last.new.sums in
    let text = (chained records).text in
    let history = summed_as Puts f f1 s s1 (one_file Changes c.as_slice.result.now)
    (one_file Changes text) (ap (one_file Changes) (c.as_slice.ensures.value ∙ is.text))
    c.in_ok-put_bytes.ensures in
    let shown = shown_files notes records digests pages prefixes rows in
    let steady = one_file Changes text ++ shown in
    let indexes = index_files notes digests (rows_by records pages) prefixes rows
    c.args.moment in
    let files = steady ++ indexes in
    let summed = places_summed Puts (f, entries_of s) (f3, entries_of s3) files
    (summed_both Puts f f2 f3 s s2 s3 steady indexes
    (summed_both Puts f f1 f2 s s1 s2 (one_file Changes text) shown history
    (c.in_ok-publish_shown.ensures records is.shown))
    (c.in_ok-publish_last.ensures records is.shown)).placed in
    let sums = summed.1 ∙ ap (λ es. with_sums es files) c.new-sums.ensures in
    places_as Puts f f4 (files ++ one_file Sums (lines_of (entries_of s3))) _
    (λ i. files ++ one_file Sums (lines_of (sums i)))
    (places_both Puts f f3 f4 files (one_file Sums (lines_of (entries_of s3))) summed.0
    c.in_ok-put_sums.ensures)
