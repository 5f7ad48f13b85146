-- The entries of a range stand together, and its two ends say where.
use Rattle.std.proofs.Common.{◌≡◌, ℕ, zero, suc, ◌<◌, ◌≤◌, Bool, true, false, ◌&&◌, cond, List, [], ◌∷◌, length, get_or, take, drop, filter, map, refl, sym, ap, arith}
use Rattle.std.specs.List.Sorted.{IsStrictlyIncreasing, IsNonDecreasingBy}
use Rattle.std.proofs.lemmas.List.{get_or-map, length-map}
use Rattle.reg_ranges.proofs.LeastGap.{never_falls as numbers_never_fall}

module _ {X : Type 0} where
  none_pass : (p : X → Bool) (xs : List X)
      → ((k : ℕ) (d : X) → k < length xs → p (get_or xs k d) ≡ false) → filter p xs ≡ []
  none_pass p [] h = refl
  none_pass p (x ∷ xs) h =
      rw (h 0 x (omega arith)) (none_pass p xs (λ k d lt. h (suc k) d (omega arith)))

  all_pass : (p : X → Bool) (xs : List X)
      → ((k : ℕ) (d : X) → k < length xs → p (get_or xs k d) ≡ true) → filter p xs ≡ xs
  all_pass p [] h = refl
  all_pass p (x ∷ xs) h =
      rw (h 0 x (omega arith))
      (ap (λ ys. x ∷ ys) (all_pass p xs (λ k d lt. h (suc k) d (omega arith))))

  -- what passes from a place on, and not before it
  pub drop_is_filter : (p : X → Bool) (xs : List X) (i : ℕ) → i ≤ length xs
      → ((k : ℕ) (d : X) → k < i → p (get_or xs k d) ≡ false)
      → ((k : ℕ) (d : X) → i ≤ k → k < length xs → p (get_or xs k d) ≡ true)
      → drop i xs ≡ filter p xs
  drop_is_filter p xs zero within low high =
      sym (all_pass p xs (λ k d lt. high k d (omega arith) lt))
  drop_is_filter p [] (suc i) within low high = absurd (omega arith)
  drop_is_filter p (x ∷ xs) (suc i) within low high =
      rw (low 0 x (omega arith))
      (drop_is_filter p xs i (omega arith) (λ k d lt. low (suc k) d (omega arith))
      (λ k d from lt. high (suc k) d (omega arith) (omega arith)))

  -- what passes before a place, and not from it on
  pub take_is_filter : (p : X → Bool) (xs : List X) (i : ℕ) → i ≤ length xs
      → ((k : ℕ) (d : X) → k < i → p (get_or xs k d) ≡ true)
      → ((k : ℕ) (d : X) → i ≤ k → k < length xs → p (get_or xs k d) ≡ false)
      → take i xs ≡ filter p xs
  take_is_filter p xs zero within low high =
      sym (none_pass p xs (λ k d lt. high k d (omega arith) lt))
  take_is_filter p [] (suc i) within low high = absurd (omega arith)
  take_is_filter p (x ∷ xs) (suc i) within low high =
      rw (low 0 x (omega arith))
      (ap (λ ys. x ∷ ys)
      (take_is_filter p xs i (omega arith) (λ k d lt. low (suc k) d (omega arith))
      (λ k d from lt. high (suc k) d (omega arith) (omega arith))))

  -- what passes one test and then another passes both
  kept_at : (p q : X → Bool) (x : X) (xs : List X) (b : Bool) → p x ≡ b
      → filter q (filter p xs) ≡ filter (λ y. p y && q y) xs
      → filter q (cond b (x ∷ filter p xs) (filter p xs))
      ≡ cond (b && q x) (x ∷ filter (λ y. p y && q y) xs) (filter (λ y. p y && q y) xs)
  kept_at p q x xs true is more =
      ap (λ ys. cond (q x) (x ∷ ys) ys) more
  kept_at p q x xs false is more = more

  pub filter-filter : (p q : X → Bool) (xs : List X)
      → filter q (filter p xs) ≡ filter (λ x. p x && q x) xs
  filter-filter p q [] = refl
  filter-filter p q (x ∷ xs) = kept_at p q x xs (p x) refl (filter-filter p q xs)

  -- what is in order by numbers that ascend never falls
  pub never_falls : (n : X → ℕ) (xs : List X) → IsStrictlyIncreasing (map n xs)
      → IsNonDecreasingBy n xs
  never_falls n xs h i j d le lt =
      let long = length-map xs n in
      let below = numbers_never_fall (map n xs) h i j 0 le (omega (arith, long)) in
      rw (sym (get_or-map n xs i d 0 (omega arith)), sym (get_or-map n xs j d 0 lt)) below
