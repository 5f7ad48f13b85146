use Rattle.std.proofs.Common.{◌++◌, List, take, subst, arith}
use Rattle.std.specs.List.{flat_map}
use Rattle.std.proofs.lemmas.List.{take_all}
use Rattle.reg_core.specs.declared.told.Told.{Told}
use Rattle.reg_history.specs.Published.{page_facts}
use Rattle.reg_history.specs.Recording.{Took}
use Rattle.reg_history.proofs.Taken.{took_as, took_both, took_none}
use Rattle.reg_publish.specs.Told.{pages_of}
use Rattle.reg_publish.proofs.TellsAll.{flat_pages_more}
use Rattle.reg_publish.proofs.told.tell_pages.Goals as goal

pub loop-told-init : goal.loop-told-init
loop-told-init g c = took_none g.T.Takes.Awaits c.args.taker.now

pub loop-told-preserved : goal.loop-told-preserved
loop-told-preserved g c =
    let Awaits = g.T.Takes.Awaits in
    let tolds = c.args.pages.now in
    let i = c.loop-told.told-index in
    let page = c.in_ok-page_in.field-0.now in
    let t = c.args.taker.now in
    let t' = c.loop-told.taker in
    let t'' = c.take_page.new.taker in
    took_as Awaits t t'' (flat_map page_facts (pages_of (take i tolds)) ++ page_facts page) _
    (flat_pages_more page_facts tolds i c.told-item.result page
    (omega (arith, c.loop-told-test.true)) c.told-item.is c.in_ok-page_in.ensures)
    (took_both Awaits t t' t'' (flat_map page_facts (pages_of (take i tolds))) (page_facts page)
    c.loop-told.invariant c.in_ok-take_page.ensures)

pub returns : goal.returns
returns g c =
    let So : List Told → Type 0 = λ tolds.
    Took g.T.Takes.Awaits c.args.taker.now c.loop-told.taker
    (flat_map page_facts (pages_of tolds)) in
    subst So
    (take_all c.loop-told.told-index c.args.pages.now (omega (arith, c.loop-told-test.false)))
    c.loop-told.invariant
