use Rattle.reg_laws.proofs.Repeats.RequestsStand.{submissions_stand}
use Rattle.reg_laws.proofs.submissions_stand.Goals as goal

pub returns : goal.returns
returns c = submissions_stand
