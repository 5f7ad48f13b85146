use Rattle.reg_wire.proofs.StruckLines.{no_trace_in_lines}
use Rattle.reg_wire.proofs.script.laws.unseen_lines_leave_no_trace.Goals as goal

pub returns : goal.returns
returns c = no_trace_in_lines c.unseen_calls_leave_no_trace.ensures
