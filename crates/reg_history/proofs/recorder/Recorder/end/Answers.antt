use Rattle.std.proofs.Common.{[]}
use Rattle.reg_history.specs.Chain.{says}
use Rattle.reg_history.specs.Recording.{Records}
use Rattle.reg_changes.specs.Replay.{IsLost}
use Rattle.reg_history.proofs.Recordings.{records_end, records_left, was_not_lost}
use Rattle.reg_changes.proofs.Replayed.{says_nothing}
use Rattle.reg_history.proofs.recorder.Recorder.end.Goals as goal

pub returns-in-None-clause-goes_on : goal.returns-in-None-clause-goes_on
returns-in-None-clause-goes_on c = λ aim h.
    records_end aim c.args.self
    (was_not_lost (Records aim c.args.self []) (λ s. IsLost (says aim.records) aim.facts s)
    c.args.self.lost c.in_default.is h)
    (says_nothing c.args.self.said c.in-None.ensures.variant.1)

pub returns-clause-lost : goal.returns-clause-lost
returns-clause-lost c = λ aim h.
    records_left aim c.args.self c.in-Some-pop_first.subject c.in-Some-pop_first.field-0-1
    (was_not_lost (Records aim c.args.self []) (λ s. IsLost (says aim.records) aim.facts s)
    c.args.self.lost c.in_default.is h)
    c.in-Some-pop_first.ensures.value
