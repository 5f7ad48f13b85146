use Rattle.std.proofs.Common.{[], ◌∷◌, ◌++◌, map, ap, ◌∙◌, arith}
use Rattle.std.proofs.lemmas.List.{take_all}
use Rattle.reg_site.specs.Summary.{summary}
use Rattle.reg_publish.specs.Told.{pages_of}
use Rattle.reg_publish.proofs.TellsAll.{map_pages_more}
use Rattle.reg_publish.proofs.indexes.summaries.Goals as goal

pub loop-told-preserved : goal.loop-told-preserved
loop-told-preserved c =
    c.in_ok-push.ensures.items
    ∙ ap (λ s. c.loop-told.summaries.items ++ s ∷ []) c.in_ok-of.ensures
    ∙ ap (λ ss. ss ++ summary c.in_ok-page_in.field-0.now ∷ []) c.loop-told.invariant
    ∙ map_pages_more summary c.args.pages.now c.loop-told.told-index c.told-item.result
    c.in_ok-page_in.field-0.now (omega (arith, c.loop-told-test.true)) c.told-item.is
    c.in_ok-page_in.ensures

pub returns : goal.returns
returns c =
    c.loop-told.invariant
    ∙ ap (λ tolds. map summary (pages_of tolds))
    (take_all c.loop-told.told-index c.args.pages.now (omega (arith, c.loop-told-test.false)))
