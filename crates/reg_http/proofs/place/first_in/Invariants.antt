use Rattle.std.proofs.Common.{◌≡◌, None, drop}
use Rattle.reg_http.specs.Places.{first_from}
use Rattle.reg_http.proofs.place.first_in.Given as goal

-- what is found with the places that are left is what is found with all
abbrev pub invariant-loop-at : goal.invariant-loop-at
invariant-loop-at l =
    first_from l.order l.at l.found (drop l.at l.places) ≡ first_from l.order 0 None l.places
