use Rattle.reg_opening.proofs.feeder.FeederSinkNumbered.take.Goals as goal

pub returns-clause-taken : goal.returns-clause-taken
returns-clause-taken g c = record {
  kept = c.in_ok-feed.field-0;
  feeds = rw c.row.ensures at c.in_ok-feed.ensures.feeds;
  rises = λ rowids risen. rw c.rowid.ensures at (c.then-self.ensures rowids risen);
}
