use Rattle.reg_office.proofs.laws.links_are_their_principals.Goals as goal

pub returns : goal.returns
returns c = c.links_are_their_principals.ensures _
