use Rattle.reg_wire.proofs.OneCut.{some_lines, same_lines}
use Rattle.reg_wire.proofs.script.laws.lines_are_cut_one_way.Goals as goal

pub returns : goal.returns
returns c = record { some = some_lines; same = same_lines }
