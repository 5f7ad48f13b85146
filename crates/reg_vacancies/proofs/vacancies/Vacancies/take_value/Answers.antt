use Rattle.std.proofs.lemmas.Result.{on_err_weaker, on_ok_weaker}
use Rattle.reg_vacancies.specs.Vacancies.{free_in, taken_in}
use Rattle.reg_vacancies.proofs.vacancies.Vacancies.take_value.Goals as goal

pub returns-clause-ok : goal.returns-clause-ok
unfolding free_in taken_in
returns-clause-ok c =
    on_ok_weaker c.take.result
    (λ takes entries pool blocks are row.
    record { taken = takes entries are.taken row; pooled = are.pooled; left = are.left })
    c.take.ensures.ok

pub returns-clause-err : goal.returns-clause-err
unfolding free_in taken_in
returns-clause-err c =
    on_err_weaker c.take.result
    (λ same entries pool blocks. (
      (λ are. record
          { taken = (same entries).0 are.taken; pooled = are.pooled; left = are.left }),
      (λ are. record
          { taken = (same entries).1 are.taken; pooled = are.pooled; left = are.left }),
    ))
    c.take.ensures.err

pub returns-clause-absent : goal.returns-clause-absent
unfolding taken_in
returns-clause-absent c =
    on_err_weaker c.take.result (λ absent entries pool blocks are. absent entries are.taken)
    c.take.ensures.absent
