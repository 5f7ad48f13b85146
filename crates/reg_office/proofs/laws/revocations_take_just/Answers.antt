use Rattle.reg_office.proofs.laws.revocations_take_just.Goals as goal

pub returns : goal.returns
returns c = c.revocations_take_just.ensures _
