use Rattle.reg_opening.proofs.FedAudits.{accepted, refused}
use Rattle.reg_opening.proofs.audit.Audit.accepts.Goals as goal

pub returns-then-self-clause-world : goal.returns-then-self-clause-world
returns-then-self-clause-world c =
    accepted c.args.self.now c.args.row.now c.admits.result c.if-self.true c.formed.ensures
    c.admits.ensures.world

pub returns-else-self-clause-world : goal.returns-else-self-clause-world
returns-else-self-clause-world c = refused c.args.self.now c.args.row.now c.if-self.false
