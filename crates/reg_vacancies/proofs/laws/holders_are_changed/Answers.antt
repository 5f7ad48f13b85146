use Rattle.reg_vacancies.proofs.Carrying.{holders_are_changed}
use Rattle.reg_vacancies.proofs.laws.holders_are_changed.Goals as goal

pub returns : goal.returns
returns c = holders_are_changed
