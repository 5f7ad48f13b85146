use Rattle.std.proofs.Common.{List, None}
use Rattle.reg_changes.specs.declared.change.HistoryRecord.{HistoryRecord}
use Rattle.reg_history.specs.Chain.{says}
use Rattle.reg_changes.specs.Said.{Says}
use Rattle.reg_verify.specs.Strays.{Lists}
use Rattle.reg_verify.specs.Verifying.{Finds, HasHistory, TellsWhy}
use Rattle.reg_verify.proofs.Flaws.{handed_on, tells_nameless}
use Rattle.reg_verify.proofs.Folders.{all_facts}
use Rattle.reg_verify.proofs.registries.facts_in.Goals as goal

pub returns-clause-facts : goal.returns-clause-facts
returns-clause-facts g c =
    all_facts (Finds g.F.Reads.Tells g.F.Reads.held c.args.folder.now) c.in_ok-facts.facts.items
    c.add_pool.new.facts.items c.add_listed.new.facts.items c.in_ok-facts.ensures.facts
    c.in_ok-add_pool.ensures.facts c.in_ok-add_listed.ensures.facts

pub returns-in_err-names-clause-why : goal.returns-in_err-names-clause-why
returns-in_err-names-clause-why g c =
    let Found = Finds g.F.Reads.Tells g.F.Reads.held c.args.folder.now in
    let Names = Lists g.F.Reads.Tells g.F.Reads.listed c.args.folder.now in
    handed_on (λ why. (records : List HistoryRecord) → HasHistory Found records
    → Says c.args.said.now (says records) → TellsWhy Found Names None why)
    c.from_residual.result c.in_err-names.field-0.0
    c.from_residual.ensures.1
    (λ records has same. tells_nameless Found Names c.args.said.now records c.in_err-names.field-0.0 has same
    c.in_err-names.ensures.why)
