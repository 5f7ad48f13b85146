use Rattle.std.proofs.Common.{◌≡◌, ◌++◌, ap, ◌∙◌, rules}
use Rattle.reg_core.specs.declared.told.Told.TheVariants as tells
use Rattle.reg_site.specs.Site.{one_file, told_text}
use Rattle.reg_site.specs.declared.files.File.TheVariants.{Pool, Style}
use Rattle.reg_site.specs.declared.style.TheConstants.{STYLE}
use Rattle.reg_publish.proofs.Placed.{summed_as, summed_both}
use Rattle.reg_publish.proofs.registries.publish_pool.Goals as goal

pub returns : goal.returns
returns g c =
    let Puts = g.F.Folder.Puts in
    let f = c.args.folder.now in
    let f1 = c.put_bytes.new.folder in
    let f2 = c.put_bytes-2.new.folder in
    let s = c.args.sums.now in
    let s1 = c.put_bytes.new.sums in
    let s2 = c.put_bytes-2.new.sums in
    let tree = c.deref.ensures.value ∙ c.in_ok-tree.ensures
    ∙ ap (λ p. told_text (tells.Pool p)) c.in_ok-copy.ensures.equal in
    let styled : c.as_bytes.result.now ≡ STYLE.now = search rules in
    summed_as Puts f f2 s s2 (one_file Pool c.deref.result.now ++ one_file Style c.as_bytes.result.now)
    _ (λ i. one_file Pool (tree i) ++ one_file Style (styled i))
    (summed_both Puts f f1 f2 s s1 s2 (one_file Pool c.deref.result.now)
    (one_file Style c.as_bytes.result.now) c.in_ok-put_bytes.ensures c.in_ok-put_bytes-2.ensures)
