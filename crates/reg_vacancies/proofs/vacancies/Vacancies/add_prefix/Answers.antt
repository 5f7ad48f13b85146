use Rattle.std.proofs.Common.{ap, ◌∙◌}
use Rattle.std.specs.FinMap.{insert}
use Rattle.std.proofs.lemmas.Result.{on_err_weaker, on_ok_weaker}
use Rattle.reg_vacancies.specs.Vacancies.{Pool, free_in, taken_in}
use Rattle.reg_vacancies.proofs.Carrying.{same-from_unchanged}
use Rattle.reg_vacancies.proofs.vacancies.Vacancies.add_prefix.Goals as goal

pub returns-clause-ok : goal.returns-clause-ok
unfolding free_in taken_in
returns-clause-ok c =
    on_ok_weaker c.add_prefix.result
    (λ adds entries pool blocks are. record {
      taken = are.taken;
      pooled = adds ∙ ap (λ (pool : Pool). insert pool c.args.prefix tt) are.pooled;
      left = c.add_prefix.ensures.left blocks are.left;
    })
    c.add_prefix.ensures.ok

pub returns-clause-err : goal.returns-clause-err
returns-clause-err c =
    on_err_weaker c.add_prefix.result
    (same-from_unchanged c.args.self.now c.add_prefix.new.self) c.add_prefix.ensures.err
