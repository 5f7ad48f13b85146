use Rattle.std.proofs.Common.{ℕ, List, [], ◌++◌, map, ap, ◌∙◌}
use Rattle.std.specs.Prelude.{Option, unwrap_or}
use Rattle.reg_site.specs.IndexTree.{index_tree, row_of}
use Rattle.reg_site.specs.Recent.{text_of}
use Rattle.reg_site.specs.Site.{one_file}
use Rattle.reg_site.specs.declared.files.File.TheVariants.{Index, IndexTree}
use Rattle.reg_publish.proofs.Placed.{summed_as, summed_both}
use Rattle.reg_publish.proofs.indexes.publish_indexes.Goals as goal

pub returns : goal.returns
returns g c = λ records is.
    let Puts = g.F.Folder.Puts in
    let f = c.args.folder.now in
    let f1 = c.put_bytes.new.folder in
    let f2 = c.put_bytes-2.new.folder in
    let s = c.args.sums.now in
    let s1 = c.put_bytes.new.sums in
    let s2 = c.put_bytes-2.new.sums in
    let page = c.deref.ensures.value ∙ c.in_ok-html.ensures in
    let now = c.as_str.ensures.value ∙ c.in_ok-now.ensures in
    let last = c.text_of.ensures
    ∙ ap text_of (c.last_digest.ensures ∙ ap (λ (o : Option (List ℕ)). unwrap_or o []) is.last) in
    let title = c.site_title.ensures in
    let tree = c.deref-2.ensures.value ∙ c.in_ok-tree.ensures
    ∙ (λ i. index_tree (title i) (now i) (is.counted i) (last i)
    (map row_of c.args.registers.now)) in
    let html = one_file Index c.deref.result.now in
    let json = one_file IndexTree c.deref-2.result.now in
    summed_as Puts f f2 s s2 (html ++ json) _
    (λ i. one_file Index (page i) ++ one_file IndexTree (tree i))
    (summed_both Puts f f1 f2 s s1 s2 html json c.in_ok-put_bytes.ensures c.in_ok-put_bytes-2.ensures)
