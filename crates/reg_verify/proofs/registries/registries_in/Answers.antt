use Rattle.std.proofs.Common.{List, sym, subst}
use Rattle.reg_changes.specs.declared.change.Fact.{Fact}
use Rattle.reg_verify.specs.Verifying.{AreFactsOfPages, Finds}
use Rattle.reg_verify.proofs.Folders.{no_pages, one_page_more}
use Rattle.reg_verify.proofs.registries.registries_in.Goals as goal

pub loop-name-init : goal.loop-name-init
loop-name-init g c =
    let Found = Finds g.F.Reads.Tells g.F.Reads.held c.args.folder.now in
    let Are : List Fact → Type 0 = AreFactsOfPages Found in
    subst Are (sym c.new-facts.ensures.items) (no_pages Found)

pub loop-name-preserved : goal.loop-name-preserved
loop-name-preserved g c =
    one_page_more (Finds g.F.Reads.Tells g.F.Reads.held c.args.folder.now) c.loop-name.facts.items
    c.add_registry.new.facts.items c.loop-name.invariant c.in_ok-add_registry.ensures.facts
