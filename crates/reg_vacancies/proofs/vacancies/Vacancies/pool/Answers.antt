use Rattle.std.proofs.Common.{◌≡◌, ℕ, List, ap, ◌∙◌}
use Rattle.std.specs.FinMap.{keys}
use Rattle.std.proofs.lemmas.Result.{IfOk-weaker}
use Rattle.reg_vacancies.specs.Places.{pool_in}
use Rattle.reg_vacancies.specs.Vacancies.{OfAll, free_in}
use Rattle.reg_vacancies.proofs.vacancies.Vacancies.pool.Goals as goal

pub returns : goal.returns
unfolding free_in
returns c =
    let self = c.args.self.now in
    IfOk-weaker c.pool.result (λ (copy : List ℕ). copy ≡ keys (pool_in self.places))
    (λ (copy : List ℕ). OfAll self (λ entries pool blocks. copy ≡ keys pool))
    (λ copy is. λ entries pool blocks are. is ∙ ap keys are.pooled)
    c.pool.ensures
