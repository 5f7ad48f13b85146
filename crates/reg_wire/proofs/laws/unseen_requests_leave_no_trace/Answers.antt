use Rattle.reg_wire.proofs.Exchanges.{no_trace_in_requests}
use Rattle.reg_wire.proofs.laws.unseen_requests_leave_no_trace.Goals as goal

pub returns : goal.returns
returns c = no_trace_in_requests c.unseen_calls_leave_no_trace.ensures
