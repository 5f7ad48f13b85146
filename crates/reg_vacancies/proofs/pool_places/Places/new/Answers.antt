use Rattle.reg_vacancies.specs.PoolPlaces.{IsFreeIn, pool_of}
use Rattle.reg_vacancies.specs.Sizes.{FreeOf}
use Rattle.reg_vacancies.proofs.Following.{none_followed}
use Rattle.reg_vacancies.proofs.SizeSteps.{none_free}
use Rattle.reg_vacancies.proofs.pool_places.Places.new.Goals as goal

pub returns-clause-free : goal.returns-clause-free
unfolding IsFreeIn
returns-clause-free c = λ block.
    none_free c.new-2.result c.new-3.result c.new-4.result c.new-2.ensures.empty
    c.new-3.ensures.empty c.new-4.ensures.empty block.size block.prefix

pub returns-clause-follows : goal.returns-clause-follows
unfolding IsFreeIn pool_of
returns-clause-follows c =
    let follows =
    none_followed (FreeOf c.new-2.result c.new-3.result c.new-4.result) c.new.result.keys
    c.new.ensures.empty (returns-clause-free c) in
    record { free = follows.0; in_pool = follows.1 }
