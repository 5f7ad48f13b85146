-- One digit more.
use Rattle.std.proofs.Common.{◌≡◌, ℕ, ◌+◌, ◌-◌, ◌*◌, min, List, [], ◌∷◌, ◌++◌, refl, arith}
use Rattle.reg_head.specs.Fields.{number_from}

pub number_push : (n : ℕ) (xs : List ℕ) (c : ℕ) → number_from n (xs ++ c ∷ []) ≡ number_from n xs * 10 + (c - 48)
number_push n [] c = refl
number_push n (x ∷ xs) c = number_push (n * 10 + (x - 48)) xs c

pub cap_step : (a d : ℕ) → min (min a 65537 * 10 + d) 65537 ≡ min (a * 10 + d) 65537
cap_step a d = omega arith
