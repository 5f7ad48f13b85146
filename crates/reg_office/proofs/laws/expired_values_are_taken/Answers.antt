use Rattle.reg_office.proofs.laws.expired_values_are_taken.Goals as goal

pub returns : goal.returns
returns c = c.expired_values_are_taken.ensures _
