use Rattle.std.proofs.Common.{sym, subst}
use Rattle.std.proofs.lemmas.Grind.{merely}
use Rattle.reg_maps.proofs.KeyLists.{keys-empty}
use Rattle.reg_core.specs.declared.holding.Holder.{Holder}
use Rattle.reg_core.proofs.KeyOrders.{block_keys}
use Rattle.reg_vacancies.specs.PoolPlaces.{FollowsGiven}
use Rattle.reg_vacancies.specs.Places.{places_in}
use Rattle.reg_vacancies.proofs.places.FreePlaces.new.Goals as goal

pub returns-clause-left : goal.returns-clause-left
unfolding places_in
returns-clause-left c =
    merely (subst (FollowsGiven c.new.result) (sym (keys-empty Holder block_keys)) c.new.ensures.follows)
