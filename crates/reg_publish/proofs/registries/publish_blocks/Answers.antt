use Rattle.std.proofs.Common.{◌++◌}
use Rattle.reg_blocks.specs.declared.size.Size.TheVariants.{MaL, MaM, MaS}
use Rattle.reg_core.specs.declared.told.Told.TheVariants as tells
use Rattle.reg_pages.specs.Blocks.{assignments_text, page_left}
use Rattle.reg_site.specs.Site.{one_file, told_text}
use Rattle.reg_site.specs.declared.files.File.TheVariants.{BlocksPage, BlocksListing, Assignments}
use Rattle.reg_publish.proofs.Placed.{summed_as, summed_both}
use Rattle.reg_publish.proofs.registries.publish_blocks.Goals as goal

pub returns : goal.returns
returns g c =
    let Puts = g.F.Folder.Puts in
    let rows = c.args.blocks.now in
    let f = c.args.folder.now in
    let f1 = c.put.new.folder in
    let f2 = c.put_block_listing.new.folder in
    let f3 = c.put_size.new.folder in
    let f4 = c.put_size-2.new.folder in
    let f5 = c.put_size-3.new.folder in
    let s = c.args.sums.now in
    let s1 = c.put.new.sums in
    let s2 = c.put_block_listing.new.sums in
    let s3 = c.put_size.new.sums in
    let s4 = c.put_size-2.new.sums in
    let s5 = c.put_size-3.new.sums in
    let html = one_file BlocksPage (page_left c.of-html.result) in
    let csv = one_file BlocksListing (told_text (tells.Blocks rows)) in
    let large = one_file (Assignments MaL) (assignments_text MaL rows) in
    let medium = one_file (Assignments MaM) (assignments_text MaM rows) in
    let small = one_file (Assignments MaS) (assignments_text MaS rows) in
    summed_as Puts f f5 s s5 (html ++ (csv ++ (large ++ (medium ++ small)))) _
    (λ i. one_file BlocksPage (c.of-html.ensures i) ++ (csv ++ (large ++ (medium ++ small))))
    (summed_both Puts f f1 f5 s s1 s5 html (csv ++ (large ++ (medium ++ small)))
    c.in_ok-put.ensures
    (summed_both Puts f1 f2 f5 s1 s2 s5 csv (large ++ (medium ++ small))
    c.in_ok-put_block_listing.ensures
    (summed_both Puts f2 f3 f5 s2 s3 s5 large (medium ++ small) c.in_ok-put_size.ensures
    (summed_both Puts f3 f4 f5 s3 s4 s5 medium small c.in_ok-put_size-2.ensures
    c.in_ok-put_size-3.ensures))))
