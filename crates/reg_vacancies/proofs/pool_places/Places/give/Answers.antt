use Rattle.std.proofs.Common.{refl}
use Rattle.std.proofs.lemmas.Result.{on_err_weaker, on_ok_weaker}
use Rattle.reg_vacancies.specs.PoolPlaces.{IsFreeIn, pool_of}
use Rattle.reg_vacancies.specs.Sizes.{FreeOf}
use Rattle.reg_vacancies.proofs.Following.{gift_followed, same_followed}
use Rattle.reg_vacancies.proofs.pool_places.Places.give.Goals as goal

pub returns-clause-follows : goal.returns-clause-follows
unfolding IsFreeIn pool_of
returns-clause-follows c =
    let old = c.args.self.now in
    let new = c.give_block.new in
    on_ok_weaker c.give_block.result
    (λ gone given after follows adds there.
    let now =
    gift_followed (FreeOf old.large old.medium old.small) (FreeOf new.large new.medium new.small)
    old.prefixes.keys given (follows.free, follows.in_pool) after c.args.block adds there gone in
    record { free = now.0; in_pool = now.1 })
    c.give_block.ensures.ok

pub returns-clause-stays : goal.returns-clause-stays
unfolding IsFreeIn pool_of
returns-clause-stays c =
    let old = c.args.self.now in
    let new = c.give_block.new in
    on_err_weaker c.give_block.result
    (λ same given follows.
    let now =
    same_followed (FreeOf old.large old.medium old.small) (FreeOf new.large new.medium new.small)
    old.prefixes.keys old.prefixes.keys given refl same (follows.free, follows.in_pool) in
    record { free = now.0; in_pool = now.1 })
    c.give_block.ensures.err
