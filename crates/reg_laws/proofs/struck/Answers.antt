use Rattle.reg_laws.proofs.Striking.{unseen_leave_no_trace}
use Rattle.reg_laws.proofs.struck.Goals as goal

pub returns-clause-no_trace : goal.returns-clause-no_trace
returns-clause-no_trace c = unseen_leave_no_trace
