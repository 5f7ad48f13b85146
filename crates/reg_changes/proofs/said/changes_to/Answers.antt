use Rattle.std.proofs.Common.{◌<◌, ◌≤◌, ◌+◌, List, ◌++◌, length, drop, ap, subst, ◌∙◌, arith}
use Rattle.std.specs.Prelude.{Option}
use Rattle.reg_changes.specs.Replay.{StandsIf, recorded}
use Rattle.reg_changes.specs.Said.{TellsLoss, said_by}
use Rattle.reg_changes.specs.declared.change.Details.{Details}
use Rattle.reg_changes.specs.declared.change.Fact.{Fact}
use Rattle.reg_changes.specs.KeepingUp.{KeepsUp}
use Rattle.reg_changes.proofs.Replayed.{drop-end, drop-item, handed_on, keeps_up-kept, keeps_up-left, keeps_up-next, keeps_up-says, says_nothing, tells_loss}
use Rattle.reg_changes.proofs.said.changes_to.Goals as goal

pub loop-fact-preserved : goal.loop-fact-preserved
loop-fact-preserved c =
    let facts = c.args.facts.now in
    let fact = c.fact-item.result in
    let inside : c.loop-fact.fact-index < length facts = omega (arith, c.loop-fact-test.true) in
    let Up : List Fact → Type 0 = λ rest.
    KeepsUp (said_by c.args.said) facts (said_by c.loop-fact.said) rest c.loop-fact.changes.items in
    let now = subst Up (drop-item facts c.loop-fact.fact-index fact inside c.fact-item.is)
    c.loop-fact.invariant in
    let Stands : Option Details → Type 0 = λ o. StandsIf o fact in
    keeps_up-next (said_by c.args.said) facts (said_by c.loop-fact.said)
    (said_by c.remove-before.new.self) fact (drop (c.loop-fact.fact-index + 1) facts)
    c.loop-fact.changes.items c.push_if.new.changes.items now c.remove-before.ensures.updates.0
    (subst Stands c.remove-before.ensures.value c.in_ok-change.ensures.stands)
    (c.in_ok-push_if.ensures
    ∙ ap (λ cs. c.loop-fact.changes.items ++ cs)
    (c.in_ok-change.ensures.change ∙ ap (λ o. recorded o fact) c.remove-before.ensures.value))

pub returns-in_err-change-clause-lost : goal.returns-in_err-change-clause-lost
returns-in_err-change-clause-lost c =
    let facts = c.args.facts.now in
    let fact = c.fact-item.result in
    let inside : c.loop-fact.fact-index < length facts = omega (arith, c.loop-fact-test.true) in
    let Up : List Fact → Type 0 = λ rest.
    KeepsUp (said_by c.args.said) facts (said_by c.loop-fact.said) rest c.loop-fact.changes.items in
    let now = subst Up (drop-item facts c.loop-fact.fact-index fact inside c.fact-item.is)
    c.loop-fact.invariant in
    handed_on (TellsLoss (said_by c.args.said) facts) c.from_residual.result
    c.in_err-change.field-0.0 c.from_residual.ensures.1
    (tells_loss (said_by c.args.said) facts (said_by c.loop-fact.said) fact
    (drop (c.loop-fact.fact-index + 1) facts) c.loop-fact.changes.items c.remove-before.result
    c.in_err-change.field-0.0 now c.remove-before.ensures.value c.in_err-change.ensures.lost)

pub returns-in-None-clause-kept : goal.returns-in-None-clause-kept
returns-in-None-clause-kept c =
    let facts = c.args.facts.now in
    let long : length facts ≤ c.loop-fact.fact-index = omega (arith, c.loop-fact-test.false) in
    let Up : List Fact → Type 0 = λ rest.
    KeepsUp (said_by c.args.said) facts (said_by c.loop-fact.said) rest c.loop-fact.changes.items in
    keeps_up-kept (said_by c.args.said) facts (said_by c.loop-fact.said) c.loop-fact.changes.items
    (subst Up (drop-end facts c.loop-fact.fact-index long) c.loop-fact.invariant)
    (says_nothing c.loop-fact.said c.in-None.ensures.variant.1)

pub returns-in-None-clause-replayed : goal.returns-in-None-clause-replayed
returns-in-None-clause-replayed c =
    let facts = c.args.facts.now in
    let long : length facts ≤ c.loop-fact.fact-index = omega (arith, c.loop-fact-test.false) in
    let Up : List Fact → Type 0 = λ rest.
    KeepsUp (said_by c.args.said) facts (said_by c.loop-fact.said) rest c.loop-fact.changes.items in
    keeps_up-says (said_by c.args.said) facts (said_by c.loop-fact.said) c.loop-fact.changes.items
    (subst Up (drop-end facts c.loop-fact.fact-index long) c.loop-fact.invariant)
    (says_nothing c.loop-fact.said c.in-None.ensures.variant.1)

pub returns-clause-lost : goal.returns-clause-lost
returns-clause-lost c =
    let facts = c.args.facts.now in
    let long : length facts ≤ c.loop-fact.fact-index = omega (arith, c.loop-fact-test.false) in
    let Up : List Fact → Type 0 = λ rest.
    KeepsUp (said_by c.args.said) facts (said_by c.loop-fact.said) rest c.loop-fact.changes.items in
    keeps_up-left (said_by c.args.said) facts (said_by c.loop-fact.said) c.loop-fact.changes.items
    c.in-Some.subject c.in-Some.field-0-1
    (subst Up (drop-end facts c.loop-fact.fact-index long) c.loop-fact.invariant) c.in-Some.ensures.value
