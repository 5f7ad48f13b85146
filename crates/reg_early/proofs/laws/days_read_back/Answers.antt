use Rattle.reg_early.proofs.DaysReadBack.{read_back}
use Rattle.reg_early.proofs.laws.days_read_back.Goals as goal

pub returns : goal.returns
returns c = read_back
