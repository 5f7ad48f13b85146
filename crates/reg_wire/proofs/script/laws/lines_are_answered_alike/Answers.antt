use Rattle.reg_wire.proofs.AlikeLines.{lines_alike}
use Rattle.reg_wire.proofs.script.laws.lines_are_answered_alike.Goals as goal

pub returns : goal.returns
returns c = lines_alike c.calls_are_answered_alike.ensures
