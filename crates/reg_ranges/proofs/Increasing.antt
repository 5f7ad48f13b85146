-- Lists of numbers that rise, head by head.
use Rattle.std.proofs.Common.{ℕ, zero, suc, ◌+◌, ◌<◌, ◌≤◌, List, [], ◌∷◌, add-one, arith}
use Rattle.std.specs.List.Sorted.{IsStrictlyIncreasing}

-- the numbers rise, and none is below the bound
abbrev pub Rises : ℕ → List ℕ → Type 0
Rises bound [] = Unit {0}
Rises bound (x ∷ xs) = (bound ≤ x) × Rises (x + 1) xs

pub Rises-lower : (a b : ℕ) (xs : List ℕ) → a ≤ b → Rises b xs → Rises a xs
Rises-lower a b [] below h = tt
Rises-lower a b (x ∷ xs) below h = (omega arith, h.1)

pub increasing-tail : (x : ℕ) (xs : List ℕ) → IsStrictlyIncreasing (x ∷ xs)
    → IsStrictlyIncreasing xs
increasing-tail x xs h k lt = rw add-one (rw add-one at (h (suc k) (omega arith)))

pub increasing-cons : (x y : ℕ) (ys : List ℕ) → x < y → IsStrictlyIncreasing (y ∷ ys)
    → IsStrictlyIncreasing (x ∷ y ∷ ys)
increasing-cons x y ys lt h zero k = lt
increasing-cons x y ys lt h (suc j) k = rw add-one (rw add-one at (h j (omega arith)))

pub increasing_from_Rises : (bound : ℕ) (xs : List ℕ) → Rises bound xs → IsStrictlyIncreasing xs
increasing_from_Rises bound [] h = λ k lt. absurd (omega arith)
increasing_from_Rises bound (x ∷ []) h = λ k lt. absurd (omega arith)
increasing_from_Rises bound (x ∷ y ∷ ys) h =
    increasing-cons x y ys (omega arith) (increasing_from_Rises (x + 1) (y ∷ ys) h.1)

pub Rises_from_increasing : (x : ℕ) (xs : List ℕ) → IsStrictlyIncreasing (x ∷ xs) → Rises x (x ∷ xs)
Rises_from_increasing x [] h = (omega arith, tt)
Rises_from_increasing x (y ∷ ys) h =
    let first : x < y = h 0 (omega arith) in (
      omega arith,
      Rises-lower (x + 1) y (y ∷ ys) (omega arith)
          (Rises_from_increasing y ys (increasing-tail x (y ∷ ys) h)),
    )

-- increasing numbers rise from 0
pub rises_any : (xs : List ℕ) → IsStrictlyIncreasing xs → Rises 0 xs
rises_any [] h = tt
rises_any (x ∷ xs) h = Rises-lower 0 x (x ∷ xs) (omega arith) (Rises_from_increasing x xs h)
