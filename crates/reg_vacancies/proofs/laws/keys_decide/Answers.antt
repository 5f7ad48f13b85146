use Rattle.reg_vacancies.proofs.Carrying.{keys_decide}
use Rattle.reg_vacancies.proofs.laws.keys_decide.Goals as goal

pub returns : goal.returns
returns c = keys_decide
