use Rattle.std.proofs.Common.{ℕ, List, subst}
use Rattle.std.specs.Prelude.{Contains}
use Rattle.std.specs.FinMap.{insert, keys}
use Rattle.std.proofs.Math.Logic.{∥∥₁_map}
use Rattle.std.proofs.lemmas.Result.{on_err_weaker, on_ok_weaker}
use Rattle.reg_blocks.specs.Block.{leading_24}
use Rattle.reg_vacancies.specs.PoolPlaces.{pool_of}
use Rattle.reg_vacancies.specs.Places.{places_in}
use Rattle.reg_vacancies.proofs.PrefixSets.{keys-prefix_set}
use Rattle.reg_vacancies.proofs.Leaving.{adds-inserted, unchanged}
use Rattle.reg_vacancies.proofs.places.FreePlaces.give.Goals as goal

pub returns-clause-ok : goal.returns-clause-ok
unfolding places_in
returns-clause-ok c =
    let places = c.args.self.now.places in
    let block = c.args.block in
    on_ok_weaker c.give.result
    (λ follows blocks left there holder.
    let in_pool =
    subst (λ (pool : List ℕ). Contains pool (leading_24 block))
    (keys-prefix_set (pool_of places) c.prefixes-prefixes.ensures.pool.ascending) there in
    ∥∥₁_map left (λ was.
    follows (keys blocks) (keys (insert blocks block holder)) was
    (adds-inserted blocks block holder) in_pool))
    c.give.ensures.follows

pub returns-clause-err : goal.returns-clause-err
returns-clause-err c =
    unchanged c.args.self.now (record { places = c.give.new.self }) c.give.result
    (on_err_weaker c.give.result (λ same. c.give.ensures.pool) c.give.ensures.err)
    c.give.ensures.err
