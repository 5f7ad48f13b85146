-- Records of five fields.
use Rattle.std.proofs.Common.{◌≡◌, ℕ, ◌<◌, List, [], ◌∷◌, length, Some, None, sym, arith}
use Rattle.csv.specs.Records.{field_at}
use Rattle.reg_ranges.proofs.FourFields.{field_there}

pub five_there : (fields : List (List ℕ)) (i : ℕ) → length fields ≡ 5 → i < 5
    → None ≡ field_at fields i → ⊥
five_there fields i five lt h = field_there fields i (omega arith) (sym h)

pub these_five : (fields : List (List ℕ)) (a b c d e : List ℕ) → length fields ≡ 5
    → Some a ≡ field_at fields 0 → Some b ≡ field_at fields 1 → Some c ≡ field_at fields 2
    → Some d ≡ field_at fields 3 → Some e ≡ field_at fields 4 → fields ≡ a ∷ b ∷ c ∷ d ∷ e ∷ []
unfolding field_at
these_five [] a b c d e five p q r s t = absurd (omega arith)
these_five (x ∷ []) a b c d e five p q r s t = absurd (omega arith)
these_five (x ∷ y ∷ []) a b c d e five p q r s t = absurd (omega arith)
these_five (x ∷ y ∷ z ∷ []) a b c d e five p q r s t = absurd (omega arith)
these_five (x ∷ y ∷ z ∷ w ∷ []) a b c d e five p q r s t = absurd (omega arith)
these_five (x ∷ y ∷ z ∷ w ∷ v ∷ []) a b c d e five p q r s t = cc
these_five (x ∷ y ∷ z ∷ w ∷ v ∷ u ∷ more) a b c d e five p q r s t = absurd (omega arith)
