use Rattle.reg_wire.proofs.Calls.{no_trace_in_calls}
use Rattle.reg_wire.proofs.laws.unseen_calls_leave_no_trace.Goals as goal

pub returns : goal.returns
returns c = no_trace_in_calls c.struck.ensures.stages c.struck.ensures.no_trace
