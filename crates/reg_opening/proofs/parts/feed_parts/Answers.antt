use Rattle.reg_opening.proofs.FedParts.{feeds_where}
use Rattle.reg_opening.proofs.parts.feed_parts.Goals as goal

pub returns-clause-feeds : goal.returns-clause-feeds
returns-clause-feeds g c =
    feeds_where c.args.reading.version c.feed.result (λ t w none. assumption none)
    c.feed.ensures.feeds
