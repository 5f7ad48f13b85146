use Rattle.reg_office.proofs.laws.block_asks_are_served_duly.Goals as goal

pub returns : goal.returns
returns c = c.block_asks_are_served_duly.ensures _
