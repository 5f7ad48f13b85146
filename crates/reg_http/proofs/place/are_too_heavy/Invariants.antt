use Rattle.std.proofs.Common.{◌≡◌, drop}
use Rattle.reg_http.specs.Places.{load_from, load_of}
use Rattle.reg_http.proofs.place.are_too_heavy.Given as goal

-- what is kept with the places that are left is what is kept of all
abbrev pub invariant-loop-place : goal.invariant-loop-place
invariant-loop-place l = load_from l.load (drop l.place-index l.places) ≡ load_of l.places
