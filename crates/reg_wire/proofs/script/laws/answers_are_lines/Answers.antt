use Rattle.reg_wire.proofs.AnswerLines.{answer_is_line}
use Rattle.reg_wire.proofs.script.laws.answers_are_lines.Goals as goal

pub returns : goal.returns
returns c = answer_is_line
