-- Names in place.
use Rattle.std.specs.Prelude.{◌≡◌, ℕ, List, ◌++◌, length, drop, replicate, refl}
use Rattle.std.proofs.lemmas.List.{drop-replicate}
use Rattle.reg_core.specs.Names.{in_place}

-- bytes over the first of so many zeros
pub over_zeros : (room : ℕ) (s front : List ℕ) → front ≡ s
    → front ++ drop (length s) (replicate room 0) ≡ in_place room s
over_zeros room s front h = rw (h, drop-replicate {X = ℕ} (length s) room 0) refl
