use Rattle.std.proofs.lemmas.Result.{on_err_weaker}
use Rattle.reg_vacancies.specs.Runs.{has}
use Rattle.reg_vacancies.proofs.Joining.{within_unchanged}
use Rattle.reg_vacancies.proofs.runs.Runs.insert.Goals as goal

pub returns-clause-err : goal.returns-clause-err
unfolding has
returns-clause-err c =
    on_err_weaker c.add.result (within_unchanged c.args.self.now.spans c.add.new.spans)
    c.add.ensures.err
