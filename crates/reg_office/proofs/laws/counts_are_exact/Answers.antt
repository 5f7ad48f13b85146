use Rattle.reg_office.proofs.laws.counts_are_exact.Goals as goal

pub returns : goal.returns
returns c = c.counts_are_exact.ensures _
