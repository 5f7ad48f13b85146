use Rattle.reg_changes.specs.Said.{said_by}
use Rattle.reg_changes.proofs.Replayed.{standing_set}
use Rattle.reg_changes.proofs.said.set_standing.Goals as goal

pub returns-in_ok-insert : goal.returns-in_ok-insert
returns-in_ok-insert c =
    standing_set (said_by c.args.said.now) (said_by c.remove.new.self) (said_by c.insert.new.self)
    c.args.subject c.in-Some.details c.with_standing.result c.args.standing c.in-Some.ensures.value
    c.with_standing.ensures c.remove.ensures.updates.0 c.in_ok-insert.ensures.updates.0
