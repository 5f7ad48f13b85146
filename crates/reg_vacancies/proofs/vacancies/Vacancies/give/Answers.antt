use Rattle.std.proofs.Common.{ℕ, List, ap, ◌∙◌, subst, sym}
use Rattle.std.specs.Prelude.{Contains}
use Rattle.std.specs.FinMap.{keys}
use Rattle.std.proofs.lemmas.Result.{on_err_weaker, on_ok_weaker}
use Rattle.reg_blocks.specs.Block.{leading_24}
use Rattle.reg_vacancies.specs.Vacancies.{free_in, taken_in}
use Rattle.reg_vacancies.proofs.Carrying.{same-from_unchanged}
use Rattle.reg_vacancies.proofs.vacancies.Vacancies.give.Goals as goal

pub returns-clause-ok : goal.returns-clause-ok
unfolding free_in taken_in
returns-clause-ok c =
    on_ok_weaker c.give.result
    (λ gives entries pool blocks are there holder. record {
      taken = are.taken;
      pooled = c.give.ensures.pool ∙ are.pooled;
      left = gives blocks are.left
          (subst (λ (prefixes : List ℕ). Contains prefixes (leading_24 c.args.block))
          (sym (ap keys are.pooled)) there) holder;
    })
    c.give.ensures.ok

pub returns-clause-err : goal.returns-clause-err
returns-clause-err c =
    on_err_weaker c.give.result
    (same-from_unchanged c.args.self.now c.give.new.self) c.give.ensures.err
