use Rattle.reg_maps.proofs.Outcomes.{on_either}
use Rattle.reg_vacancies.specs.PoolPlaces.{IsFreeIn, pool_of}
use Rattle.reg_vacancies.specs.Sizes.{FreeOf}
use Rattle.reg_vacancies.proofs.Following.{prefix_followed, same_followed}
use Rattle.reg_vacancies.proofs.pool_places.Places.add_prefix.Goals as goal
use Rattle.reg_vacancies.proofs.Pooling.{decided}

pub returns-clause-follows : goal.returns-clause-follows
unfolding IsFreeIn pool_of
returns-clause-follows c = λ given follows.
    let old = c.args.self.now in
    let new = c.add_pooled.new in
    let ensures = c.add_pooled.ensures in
    let now =
    on_either c.add_pooled.result ensures.pool ensures.ok ensures.err_pool ensures.err
    (λ adds gains. prefix_followed (FreeOf old.large old.medium old.small)
    (FreeOf new.large new.medium new.small) old.prefixes.keys given
    (follows.free, follows.in_pool) new.prefixes.keys c.args.prefix adds
    (decided old.prefixes c.args.prefix) gains)
    (λ pool same. same_followed (FreeOf old.large old.medium old.small)
    (FreeOf new.large new.medium new.small) old.prefixes.keys new.prefixes.keys given pool same
    (follows.free, follows.in_pool)) in
    record { free = now.0; in_pool = now.1 }
