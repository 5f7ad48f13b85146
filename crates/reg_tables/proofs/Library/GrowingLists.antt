-- What is found in a list is found there after others came to its end.
use Rattle.std.proofs.Common.{◌≡◌, ℕ, zero, suc, ◌+◌, Bool, true, false, cond, List, [], ◌∷◌, ◌++◌}
use Rattle.std.proofs.Common.{length, slice_get, Some, None, refl, ap, ◌∙◌, arith}
use Rattle.std.specs.List.{position_from}

pub before_more : {X : Type 0} (f : X → Bool) (xs ys : List X) (i at : ℕ)
    → position_from f i xs ≡ Some at → position_from f i (xs ++ ys) ≡ Some at
before_more f [] ys i at e = absurd (cc)
before_more f (x ∷ xs) ys i at e = elim (f x) as (λ b.
    cond b (Some i) (position_from f (i + 1) xs) ≡ Some at
    → cond b (Some i) (position_from f (i + 1) (xs ++ ys)) ≡ Some at) [
      | true ↦ λ here. here
      | false ↦ λ later. before_more f xs ys (i + 1) at later
    ] e

pub at_end : {X : Type 0} (f : X → Bool) (xs : List X) (y : X) (ys : List X) (i : ℕ)
    → position_from f i xs ≡ None → f y ≡ true
    → position_from f i (xs ++ y ∷ ys) ≡ Some (i + length xs)
at_end f [] y ys i none is = rw is (ap Some (omega arith))
at_end f (x ∷ xs) y ys i none is = elim (f x) as (λ b.
    cond b (Some i) (position_from f (i + 1) xs) ≡ None
    → cond b (Some i) (position_from f (i + 1) (xs ++ y ∷ ys)) ≡ Some (i + length (x ∷ xs))) [
      | true ↦ λ here. absurd (cc)
      | false ↦ λ later. at_end f xs y ys (i + 1) later is
          ∙ ap Some (omega arith)
    ] none

pub got_before : {X : Type 0} (xs ys : List X) (at : ℕ) (x : X) → slice_get xs at ≡ Some x
    → slice_get (xs ++ ys) at ≡ Some x
got_before [] ys at x e = absurd (cc)
got_before (w ∷ xs) ys zero x e = e
got_before (w ∷ xs) ys (suc at) x e = got_before xs ys at x e

pub got_at_end : {X : Type 0} (xs : List X) (y : X) (ys : List X)
    → slice_get (xs ++ y ∷ ys) (length xs) ≡ Some y
got_at_end [] y ys = refl
got_at_end (x ∷ xs) y ys = got_at_end xs y ys
