use Rattle.std.proofs.Common.{◌≡◌, map, sym, ap, ◌∙◌}
use Rattle.std.proofs.lemmas.Simd.{map-map}
use Rattle.std.specs.Option.{option_copied}
use Rattle.reg_history.specs.Chain.{chained}
use Rattle.reg_history.specs.Overview.{moment_by}
use Rattle.reg_changes.specs.Recorded.{last_changed}
use Rattle.reg_site.specs.IndexTree.{IndexRow, row_of}
use Rattle.reg_site.specs.Site.{index_files}
use Rattle.reg_site.specs.Summary.{summary}
use Rattle.reg_site.specs.declared.summary.Summary.{Summary}
use Rattle.reg_publish.specs.Told.{blocks_of, pages_of, prefixes_of}
use Rattle.reg_publish.proofs.Placed.{summed_as}
use Rattle.reg_publish.proofs.publishing.publish_last.Goals as goal

pub returns : goal.returns
returns g c = λ records is.
    let changed = c.args.overview.now.changed in
    let beside : Summary → IndexRow = λ s. (s, last_changed records s.name) in
    let known : Summary → IndexRow = λ s. (s, moment_by changed s.name) in
    let same : known ≡ beside = λ i s. (s, is.changed s.name i) in
    let pages = pages_of c.args.told.now.pages.items in
    let summed = c.deref.ensures.value ∙ c.in_ok-summaries.ensures
    ∙ ap (λ tolds. map summary (pages_of tolds)) c.as_slice.ensures.value in
    let rows = ap (map row_of) c.deref-2.ensures.value ∙ c.in_ok-registers.ensures
    ∙ ap (map known) summed ∙ ap (λ (f : Summary → IndexRow). map f (map summary pages)) same ∙ map-map beside summary pages in
    let pool = sym (ap prefixes_of c.in_ok-pool_in.ensures) in
    let given = sym (ap blocks_of c.in_ok-blocks_in.ensures) in
    summed_as g.F.Folder.Puts c.args.folder.now c.publish_indexes.new.folder c.args.sums.now
    c.publish_indexes.new.sums _ _
    (λ i. index_files (option_copied c.args.notes) (chained records).digests (rows i) (pool i)
    (given i) c.args.moment)
    (c.in_ok-publish_indexes.ensures records is)
