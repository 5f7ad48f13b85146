use Rattle.reg_office.proofs.laws.commands_go_by_their_lines.Goals as goal

pub returns : goal.returns
returns c = c.commands_go_by_their_lines.ensures _
