-- Which published rows ascend: the blocks that were given do, and values where a test of neighbours
-- says so.
use Rattle.std.proofs.Common.{◌≡◌, ℕ, ◌+◌, ◌<◌, ◌≤◌, Bool, true, false, List, [], ◌∷◌, suc, zero, length, get_or, refl, arith, nat_lt}
use Rattle.std.specs.Prelude.{IsTrue, ◌↔◌}
use Rattle.std.specs.FinMap.{keys}
use Rattle.std.specs.List.{IsAllAdjacentAnswer}
use Rattle.std.specs.List.Sorted.{IsNonDecreasingBy, IsStrictlyIncreasing, IsStrictlySortedBy}
use Rattle.std.specs.declared.cmp.Ordering.TheVariants.{Less}
use Rattle.std.proofs.lemmas.Bool.Decides.{nat_tests}
use Rattle.std.proofs.lemmas.List.Sorted.{IsNonDecreasingBy-from_all_adjacent}
use Rattle.reg_maps.proofs.MapLaws.{ascending-keys}
use Rattle.reg_blocks.specs.Block.{SizedPrefix, block_cmp, first_address}
use Rattle.reg_core.specs.View.{Published}

not_after : (a b : SizedPrefix) → block_cmp a b ≡ Less → first_address a ≤ first_address b
not_after a b h = grind (arith, nat_tests)

neighbours : (blocks : List SizedPrefix) → IsStrictlySortedBy block_cmp blocks
    → (k : ℕ) (d : SizedPrefix) → k + 1 < length blocks
    → first_address (get_or blocks k d) ≤ first_address (get_or blocks (k + 1) d)
unfolding IsStrictlySortedBy
neighbours [] up k d h = absurd (omega (arith, h))
neighbours (a ∷ []) up k d h = absurd (omega (arith, h))
neighbours (a ∷ b ∷ blocks) up zero d h = not_after a b up.0.0
neighbours (a ∷ b ∷ blocks) up (suc k) d h =
    let next : suc k + 1 ≡ suc (k + 1) = omega arith in
    rw next (neighbours (b ∷ blocks) up.1 k d (omega (arith, h)))

pub blocks_ascend : (p : Published) → IsNonDecreasingBy first_address (keys p.blocks)
blocks_ascend p =
    IsNonDecreasingBy-from_all_adjacent first_address (keys p.blocks)
    (neighbours (keys p.blocks) (ascending-keys p.blocks))

below : (m n : ℕ) → true ≡ nat_lt m n → m < n
below m n h = grind (arith, nat_tests)

not_below : (m n : ℕ) → false ≡ nat_lt m n → n ≤ m
not_below m n h = grind (arith, nat_tests)

-- the answer of a test of each neighbour tells whether the values ascend
pub values_ascend-from_answer : (values : List ℕ) (r : Bool)
    → IsAllAdjacentAnswer (λ m n t. t ≡ nat_lt m n) values r
    → IsTrue r ↔ IsStrictlyIncreasing values
values_ascend-from_answer values true answer = (
  (λ _ k h. below (get_or values k 0) (get_or values (k + 1) 0) (answer k 0 h)),
  (λ _. refl),
)
values_ascend-from_answer values false (k, h, turned) = (
  (λ e. absurd (cc)),
  (λ up.
      let over = not_below (get_or values k 0) (get_or values (k + 1) 0) (turned 0) in
      let under = up k h in
      absurd (omega (arith, over, under))),
)
