use Rattle.reg_office.proofs.laws.approvals_are_advised.Goals as goal

pub returns : goal.returns
returns c = c.approvals_are_advised.ensures _
