use Rattle.reg_office.proofs.laws.two_worlds_by_now.Goals as goal

pub returns : goal.returns
returns c = c.two_worlds_by_now.ensures _
