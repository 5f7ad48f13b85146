use Rattle.std.proofs.Common.{ℕ, List, [], ◌++◌, map, ap, ◌∙◌}
use Rattle.std.specs.Prelude.{Option, unwrap_or}
use Rattle.std.specs.Option.{option_copied}
use Rattle.reg_pages.specs.Noted.{apply_lines}
use Rattle.reg_site.specs.Changes.{changes_feed, changes_page, shown}
use Rattle.reg_site.specs.Recent.{feed_id}
use Rattle.reg_site.specs.Site.{one_file}
use Rattle.reg_site.specs.declared.files.File.TheVariants.{ChangesPage, ChangesFeed}
use Rattle.reg_publish.proofs.Placed.{summed_as, summed_both}
use Rattle.reg_publish.proofs.indexes.publish_changes.Goals as goal

pub returns : goal.returns
returns g c = λ records is.
    let Puts = g.F.Folder.Puts in
    let lines = apply_lines (option_copied c.args.notes) in
    let f = c.args.folder.now in
    let f1 = c.put_bytes.new.folder in
    let f2 = c.put_bytes-2.new.folder in
    let s = c.args.sums.now in
    let s1 = c.put_bytes.new.sums in
    let s2 = c.put_bytes-2.new.sums in
    let changes = c.in_ok-changes.ensures records is in
    let page = c.deref.ensures.value ∙ c.in_ok-html.ensures
    ∙ ap (changes_page lines) (ap (map shown) c.as_slice.ensures.value ∙ changes) in
    let id = c.as_str.ensures.value ∙ c.in_ok-id.ensures
    ∙ ap feed_id (c.first_digest.ensures
    ∙ ap (λ (o : Option (List ℕ)). unwrap_or o []) is.first) in
    let of_feed = ap (map shown) c.as_slice-2.ensures.value ∙ changes in
    let feed = c.deref-2.ensures.value ∙ c.in_ok-feed.ensures
    ∙ (λ i. changes_feed (c.site_title.ensures i) (id i) (of_feed i)) in
    let html = one_file ChangesPage c.deref.result.now in
    let atom = one_file ChangesFeed c.deref-2.result.now in
    summed_as Puts f f2 s s2 (html ++ atom) _
    (λ i. one_file ChangesPage (page i) ++ one_file ChangesFeed (feed i))
    (summed_both Puts f f1 f2 s s1 s2 html atom c.in_ok-put_bytes.ensures c.in_ok-put_bytes-2.ensures)
