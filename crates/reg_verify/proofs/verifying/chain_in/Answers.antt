use Rattle.std.proofs.Common.{List, None, ap, subst}
use Rattle.reg_history.specs.Chain.{says}
use Rattle.reg_history.specs.History.{SaysJust}
use Rattle.reg_changes.specs.Said.{said_by}
use Rattle.reg_history.specs.declared.chain.Chain.{Chain}
use Rattle.reg_changes.specs.declared.change.Fact.{Fact}
use Rattle.reg_verify.specs.Strays.{Lists}
use Rattle.reg_verify.specs.Verifying.{Finds, IsUnlikeBy, TellsWhy}
use Rattle.reg_verify.proofs.Flaws.{handed_on, tells_stray, tells_unlike}
use Rattle.reg_verify.proofs.Folders.{verified_by}
use Rattle.reg_verify.proofs.StrayFiles.{no_stray, some_stray}
use Rattle.reg_verify.proofs.verifying.chain_in.Goals as goal

pub returns-in-None-clause-verified : goal.returns-in-None-clause-verified
returns-in-None-clause-verified g c =
    let Names = Lists g.F.Reads.Tells g.F.Reads.listed c.args.folder.now in
    verified_by (Finds g.F.Reads.Tells g.F.Reads.held c.args.folder.now) Names c.in_ok-history.history
    c.in_ok-chain.chain.digests.items c.in_ok-facts.facts.items c.in_ok-history.ensures.history
    c.in_ok-find_record.ensures.found c.in_ok-facts.ensures.facts c.in_ok-facts.ensures.named
    (no_stray Names (said_by c.in_ok-history.history.said) c.in_ok-stray.stray c.in-None.is
    c.in_ok-stray.ensures.stray)
    (λ records is.
    let Just : List Fact → Type 0 = λ facts. SaysJust records facts in
    subst Just c.as_slice.ensures.value (c.in_ok-chain.ensures.says records is))
    (ap (λ (k : Chain). k.digests.items) c.in_ok-chain.ensures.same)

pub returns-in_err-find_record-clause-why : goal.returns-in_err-find_record-clause-why
returns-in_err-find_record-clause-why g c =
    let is = c.in_ok-history.ensures.history in
    handed_on (TellsWhy (Finds g.F.Reads.Tells g.F.Reads.held c.args.folder.now)
    (Lists g.F.Reads.Tells g.F.Reads.listed c.args.folder.now) None)
    c.from_residual-in_err-find_record.result c.in_err-find_record.field-0.0
    c.from_residual-in_err-find_record.ensures.1
    (c.in_err-find_record.ensures.why is.0 is.1 is.2.digests)

pub returns-in_err-facts-clause-why : goal.returns-in_err-facts-clause-why
returns-in_err-facts-clause-why g c =
    let is = c.in_ok-history.ensures.history in
    handed_on (TellsWhy (Finds g.F.Reads.Tells g.F.Reads.held c.args.folder.now)
    (Lists g.F.Reads.Tells g.F.Reads.listed c.args.folder.now) None)
    c.from_residual-in_err-facts.result c.in_err-facts.field-0.0
    c.from_residual-in_err-facts.ensures.1 (c.in_err-facts.ensures.why is.0 is.1 is.2.said)

pub returns-in_err-chain-clause-why : goal.returns-in_err-chain-clause-why
returns-in_err-chain-clause-why g c =
    let Found = Finds g.F.Reads.Tells g.F.Reads.held c.args.folder.now in
    let Names = Lists g.F.Reads.Tells g.F.Reads.listed c.args.folder.now in
    let is = c.in_ok-history.ensures.history in
    let Unlike : List Fact → Type 0 = λ facts.
    IsUnlikeBy (says is.0) facts c.in_err-chain.field-0.0 in
    handed_on (TellsWhy Found Names None) c.from_residual-in_err-chain.result
    c.in_err-chain.field-0.0 c.from_residual-in_err-chain.ensures.1
    (tells_unlike Found Names is.0 c.in_ok-facts.facts.items c.in_err-chain.field-0.0 is.1
    c.in_ok-facts.ensures.facts
    (subst Unlike c.as_slice.ensures.value (c.in_err-chain.ensures.why is.0 is.2)))

pub returns-clause-why : goal.returns-clause-why
returns-clause-why g c =
    let Found = Finds g.F.Reads.Tells g.F.Reads.held c.args.folder.now in
    let Names = Lists g.F.Reads.Tells g.F.Reads.listed c.args.folder.now in
    let is = c.in_ok-history.ensures.history in
    tells_stray Found Names c.in_ok-history.history c.in-Some.file is
    (some_stray Names (said_by c.in_ok-history.history.said) c.in_ok-stray.stray c.in-Some.file
    c.in-Some.is c.in_ok-stray.ensures.stray)
