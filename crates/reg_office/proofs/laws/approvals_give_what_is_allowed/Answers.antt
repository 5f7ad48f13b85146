use Rattle.reg_office.proofs.laws.approvals_give_what_is_allowed.Goals as goal

pub returns : goal.returns
returns c = c.approvals_give_what_is_allowed.ensures _
