use Rattle.std.proofs.Common.{◌≡◌, take}
use Rattle.std.specs.Prelude.{fold}
use Rattle.reg_store.specs.Lists.ActPlaces.{arrived_at, not_come}
use Rattle.reg_store.proofs.lists.act_places.last_arrival.Given as goal

abbrev pub invariant-loop-place : goal.invariant-loop-place
invariant-loop-place l =
    l.found ≡ fold (arrived_at l.acts) not_come (take l.place-index l.places)
