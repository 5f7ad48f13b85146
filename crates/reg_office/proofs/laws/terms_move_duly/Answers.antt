use Rattle.reg_office.proofs.laws.terms_move_duly.Goals as goal

pub returns : goal.returns
returns c = c.terms_move_duly.ensures _
