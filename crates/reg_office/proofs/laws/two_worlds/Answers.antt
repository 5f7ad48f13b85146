use Rattle.reg_office.proofs.laws.two_worlds.Goals as goal

pub returns : goal.returns
returns c = c.two_worlds.ensures _
