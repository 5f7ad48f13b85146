use Rattle.reg_office.proofs.laws.refusals_change_nothing.Goals as goal

pub returns : goal.returns
returns c = c.refusals_change_nothing.ensures _
