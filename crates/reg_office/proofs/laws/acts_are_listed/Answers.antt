use Rattle.reg_office.proofs.laws.acts_are_listed.Goals as goal

pub returns : goal.returns
returns c = c.acts_are_listed.ensures _
