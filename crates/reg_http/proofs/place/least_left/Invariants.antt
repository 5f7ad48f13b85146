use Rattle.std.proofs.Common.{◌≡◌, drop}
use Rattle.std.specs.Option.{option_map}
use Rattle.std.specs.Duration.{as_nanos}
use Rattle.reg_http.specs.Places.{least_from, least_left}
use Rattle.reg_http.proofs.place.least_left.Given as goal

-- the least with the places that are left is the least of all
abbrev pub invariant-loop-place : goal.invariant-loop-place
invariant-loop-place l =
    least_from l.patience l.now (option_map as_nanos l.least) (drop l.place-index l.places)
    ≡ least_left l.patience l.now l.places
