use Rattle.reg_vacancies.proofs.Carrying.{entries_are_replaced}
use Rattle.reg_vacancies.proofs.laws.entries_are_replaced.Goals as goal

pub returns : goal.returns
returns c = entries_are_replaced
