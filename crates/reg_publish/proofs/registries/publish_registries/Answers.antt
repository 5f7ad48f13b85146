use Rattle.std.proofs.Common.{List, take, subst, arith}
use Rattle.std.proofs.lemmas.List.{take_all}
use Rattle.std.specs.List.{flat_map}
use Rattle.std.specs.Option.{option_copied}
use Rattle.reg_core.specs.declared.told.Told.{Told}
use Rattle.reg_site.specs.Site.{page_files}
use Rattle.reg_publish.specs.Folder.{PlacesSummed}
use Rattle.reg_publish.specs.Told.{pages_of}
use Rattle.reg_publish.proofs.Placed.{summed_as, summed_both, summed_none}
use Rattle.reg_publish.proofs.TellsAll.{flat_pages_more}
use Rattle.reg_publish.proofs.registries.publish_registries.Goals as goal

pub loop-told-init : goal.loop-told-init
loop-told-init g c = λ records is. summed_none g.F.Folder.Puts c.args.folder.now c.args.sums.now

pub loop-told-preserved : goal.loop-told-preserved
loop-told-preserved g c = λ records is.
    let Puts = g.F.Folder.Puts in
    let files = page_files (option_copied c.args.notes) records in
    let tolds = c.args.pages.now in
    let i = c.loop-told.told-index in
    let page = c.in_ok-page_in.field-0.now in
    let f = c.args.folder.now in
    let f' = c.loop-told.folder in
    let f'' = c.publish_registry.new.folder in
    let s = c.args.sums.now in
    let s' = c.loop-told.sums in
    let s'' = c.publish_registry.new.sums in
    summed_as Puts f f'' s s'' _ _
    (flat_pages_more files tolds i c.told-item.result page
    (omega (arith, c.loop-told-test.true)) c.told-item.is c.in_ok-page_in.ensures)
    (summed_both Puts f f' f'' s s' s'' (flat_map files (pages_of (take i tolds))) (files page)
    (c.loop-told.invariant records is) (c.in_ok-publish_registry.ensures records is))

pub returns : goal.returns
returns g c = λ records is.
    let So : List Told → Type 0 = λ tolds.
    PlacesSummed g.F.Folder.Puts c.args.folder.now c.loop-told.folder c.args.sums.now
    c.loop-told.sums
    (flat_map (page_files (option_copied c.args.notes) records) (pages_of tolds)) in
    subst So
    (take_all c.loop-told.told-index c.args.pages.now (omega (arith, c.loop-told-test.false)))
    (c.loop-told.invariant records is)
