-- Entries of which each has a greater value than the one before it.
use Rattle.std.proofs.Common.{◌≡◌, ◌<◌, ◌+◌, nat_lt, true, List, [], ◌∷◌, length, map, arith}
use Rattle.std.proofs.lemmas.Bool.Decides.{nat_tests}
use Rattle.std.proofs.lemmas.List.{get_or-map, length-map}
use Rattle.std.specs.List.{AllAdjacentBelow}
use Rattle.std.specs.List.Sorted.{IsStrictlyIncreasing}
use Rattle.reg_core.specs.declared.entry.Entry.{Entry}

pub increasing : (entries : List Entry)
    → AllAdjacentBelow (λ x y. true ≡ nat_lt x.value y.value) entries (length entries)
    → IsStrictlyIncreasing (map (λ e. e.value) entries)
increasing [] up k inside = absurd (omega (arith, inside))
increasing (x ∷ more) up k inside =
    let long = length-map (x ∷ more) (λ e. e.value) in
    let within : k + 1 < length (x ∷ more) = omega (arith, inside, long) in
    let less = up k x within in
    let first = get_or-map (λ e. e.value) (x ∷ more) k x 0 (omega (arith, within)) in
    let second = get_or-map (λ e. e.value) (x ∷ more) (k + 1) x 0 within in
    grind (arith, nat_tests)
