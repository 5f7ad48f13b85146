use Rattle.std.proofs.Common.{◌≡◌, true, false, inl, inr, rules}
use Rattle.std.proofs.lemmas.Result.{IfErr-weaker}
use Rattle.reg_statements.proofs.ReadLemmas.{passed_on}
use Rattle.reg_opening.proofs.Causes.{cause_later, cause_wider}
use Rattle.reg_opening.proofs.FedParts.{feeds_stop, feeds_then}
use Rattle.reg_opening.proofs.parts.Tuple2Part.feed.Goals as goal

pub returns-then-not-branch-clause-feeds : goal.returns-then-not-branch-clause-feeds
returns-then-not-branch-clause-feeds g c =
    let no : c.in_ok-feed.field-0 ≡ false = search rules in
    feeds_stop c.args.reading.version _ g.B.Part.IsHeld _ (rw no at c.in_ok-feed.ensures.feeds)

pub returns-clause-feeds : goal.returns-clause-feeds
returns-clause-feeds g c =
    let one : c.in_ok-feed.field-0 ≡ true = search rules in
    feeds_then c.args.reading.version c.feed-2.result (rw one at c.in_ok-feed.ensures.feeds)
    c.feed-2.ensures.feeds

pub returns-in_err-feed-clause-fault : goal.returns-in_err-feed-clause-fault
returns-in_err-feed-clause-fault g c =
    passed_on _ c.from_residual.result c.in_err-feed.field-0.0 c.from_residual.ensures.1
    (cause_wider _ _ _ (λ sql rows shows. inl shows) c.in_err-feed.ensures.fault)

pub returns-clause-fault : goal.returns-clause-fault
returns-clause-fault g c =
    IfErr-weaker c.feed-2.result _ _ (λ fault cause.
    cause_wider _ _ fault (λ sql rows shows. inr shows)
    (cause_later _ _ _ fault c.in_ok-feed.ensures.feeds.stays c.feed-2.ensures.feeds.stays cause))
    c.feed-2.ensures.fault
