use Rattle.std.proofs.Common.{◌≡◌, ℕ, List, sym, subst, ◌∙◌}
use Rattle.std.specs.FinMap.{keys}
use Rattle.std.proofs.lemmas.Result.{IfOk-weaker}
use Rattle.reg_blocks.specs.Pool.{IsPool}
use Rattle.reg_vacancies.specs.PoolPlaces.{pool_of}
use Rattle.reg_vacancies.specs.Places.{places_in, pool_in}
use Rattle.reg_vacancies.proofs.PrefixSets.{keys-prefix_set}
use Rattle.reg_vacancies.proofs.places.FreePlaces.pool.Goals as goal

pub pool_with-requires : goal.pool_with-requires
pool_with-requires c = subst IsPool (sym c.prefixes.ensures.value) c.prefixes.ensures.pool

pub returns : goal.returns
unfolding places_in
returns c =
    let self = c.args.self.now in
    IfOk-weaker c.pool_with.result (λ (pool : List ℕ). pool ≡ c.prefixes.result.now.keys)
    (λ (pool : List ℕ). pool ≡ keys (pool_in self))
    (λ pool same. same ∙ c.prefixes.ensures.value
    ∙ sym (keys-prefix_set (pool_of self.places) c.prefixes.ensures.pool.ascending))
    c.pool_with.ensures
