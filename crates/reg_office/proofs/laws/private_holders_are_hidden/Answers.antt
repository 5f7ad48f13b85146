use Rattle.reg_office.proofs.laws.private_holders_are_hidden.Goals as goal

pub returns : goal.returns
returns c = c.private_holders_are_hidden.ensures _
