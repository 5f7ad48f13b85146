use Rattle.reg_laws.proofs.TwoWorldsByNow.{alike_by_now}
use Rattle.reg_laws.proofs.two_worlds_by_now.Goals as goal

pub returns : goal.returns
returns c = alike_by_now
