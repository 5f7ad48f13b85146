-- Bytes that were read up to a limit.
use Rattle.std.proofs.Common.{◌≡◌, ℕ, ◌<◌, List, length, take, inl, inr, ap, ◌∙◌, arith}
use Rattle.std.specs.Prelude.{Option, Some, None, IfSome}
use Rattle.std.specs.Option.{option_map}
use Rattle.std.proofs.lemmas.Bool.{cases_lt}
use Rattle.std.proofs.lemmas.List.{length-take-le, take_all}
use Rattle.reg_program.specs.Inputs.{AreKnown}

-- what was read up to a limit, and is less, is all that there was
pub all_below : (known : Option (List ℕ)) (most : ℕ) (bytes : List ℕ) → length bytes < most
    → IfSome (option_map (take most) known) (λ some. bytes ≡ some) → AreKnown known bytes
all_below None most bytes below same = tt
all_below (Some all) most bytes below same =
    elim (cases_lt most (length all)) [
      | inl longer ↦ absurd (omega (arith, ap length same, length-take-le most all (omega arith)))
      | inr fits ↦ same ∙ take_all most all fits
    ]
