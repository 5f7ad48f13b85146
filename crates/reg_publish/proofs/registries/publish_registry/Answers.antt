use Rattle.std.proofs.Common.{[], ◌∷◌, ◌++◌, ap, ◌∙◌}
use Rattle.std.specs.Option.{option_copied}
use Rattle.reg_core.specs.declared.told.Told.TheVariants as tells
use Rattle.reg_history.specs.Overview.{moment_by}
use Rattle.reg_site.specs.Files.{path_of}
use Rattle.reg_site.specs.Recent.{day_part}
use Rattle.reg_site.specs.Records.{records_text}
use Rattle.reg_site.specs.Registry.{registry_page}
use Rattle.reg_site.specs.Site.{one_file, told_text}
use Rattle.reg_site.specs.Tree.{tree_left}
use Rattle.reg_site.specs.declared.files.File.TheVariants.{RegistryPage, RegistryCsv, RegistryTree, RegistryRecords}
use Rattle.reg_publish.proofs.Placed.{summed_as, summed_both}
use Rattle.reg_publish.proofs.registries.publish_registry.Goals as goal

pub returns : goal.returns
returns g c = λ records is.
    let Puts = g.F.Folder.Puts in
    let notes = option_copied c.args.notes in
    let page = c.args.page.now in
    let name = page.name in
    let changed = c.in_ok-changed.ensures
    ∙ ap (moment_by c.args.overview.now.changed) c.as_str.ensures.text ∙ is.changed name in
    let day = c.day_part.ensures ∙ ap day_part changed in
    let f = c.args.folder.now in
    let f1 = c.put_page.new.folder in
    let f2 = c.put_listing.new.folder in
    let f3 = c.put.new.folder in
    let f4 = c.put_records.new.folder in
    let s = c.args.sums.now in
    let s1 = c.put_page.new.sums in
    let s2 = c.put_listing.new.sums in
    let s3 = c.put.new.sums in
    let s4 = c.put_records.new.sums in
    let html = one_file (RegistryPage name)
    (registry_page notes c.in_ok-changed.changed.now page) in
    let csv = one_file (RegistryCsv name) (told_text (tells.Sheet page)) in
    let tree = one_file (RegistryTree name) (told_text (tells.Page page)) in
    let xml = one_file (RegistryRecords name) (records_text notes c.day_part.result.now page) in
    let tree_put = summed_as Puts f2 f3 s2 s3 (one_file (RegistryTree name) (tree_left c.of.result))
    tree (ap (one_file (RegistryTree name)) c.of.ensures) c.in_ok-put.ensures in
    summed_as Puts f f4 s s4 (html ++ (csv ++ (tree ++ xml))) _
    (λ i. (path_of (RegistryPage name), registry_page notes (changed i) page)
    ∷ (path_of (RegistryCsv name), told_text (tells.Sheet page))
    ∷ (path_of (RegistryTree name), told_text (tells.Page page))
    ∷ (path_of (RegistryRecords name), records_text notes (day i) page)
    ∷ [])
    (summed_both Puts f f1 f4 s s1 s4 html (csv ++ (tree ++ xml)) c.in_ok-put_page.ensures
    (summed_both Puts f1 f2 f4 s1 s2 s4 csv (tree ++ xml) c.in_ok-put_listing.ensures
    (summed_both Puts f2 f3 f4 s2 s3 s4 tree xml tree_put
    c.in_ok-put_records.ensures)))
