use Rattle.reg_laws.proofs.Repeats.RequestsStand.{approvals_stand}
use Rattle.reg_laws.proofs.approvals_stand.Goals as goal

pub returns : goal.returns
returns c = approvals_stand
