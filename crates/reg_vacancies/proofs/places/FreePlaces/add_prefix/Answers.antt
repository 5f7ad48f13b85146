use Rattle.std.specs.FinMap.{keys}
use Rattle.std.proofs.Math.Logic.{∥∥₁_map}
use Rattle.std.proofs.lemmas.Result.{on_ok_weaker}
use Rattle.reg_vacancies.specs.PoolPlaces.{pool_of}
use Rattle.reg_vacancies.specs.Places.{places_in}
use Rattle.reg_vacancies.proofs.PrefixSets.{prefix_set-add}
use Rattle.reg_vacancies.proofs.Leaving.{unchanged}
use Rattle.reg_vacancies.proofs.places.FreePlaces.add_prefix.Goals as goal

pub returns-clause-ok : goal.returns-clause-ok
unfolding places_in
returns-clause-ok c =
    on_ok_weaker c.add_prefix.result
    (prefix_set-add (pool_of c.args.self.now.places) (pool_of c.add_prefix.new.self) c.args.prefix)
    c.add_prefix.ensures.pool

pub returns-clause-left : goal.returns-clause-left
unfolding places_in
returns-clause-left c = λ blocks left. ∥∥₁_map left (c.add_prefix.ensures.follows (keys blocks))

pub returns-clause-err : goal.returns-clause-err
returns-clause-err c =
    unchanged c.args.self.now (record { places = c.add_prefix.new.self }) c.add_prefix.result
    c.add_prefix.ensures.err_pool c.add_prefix.ensures.err
