-- Entries in the order of their keys, and rows in the order of their numbers.
use Rattle.std.proofs.Common.{◌≡◌, ℕ, ◌<◌, ◌+◌, nat_lt, true, cond, T, List, [], ◌∷◌, length, map, refl, sym, ap, subst, ◌∙◌, arith}
use Rattle.std.specs.Prelude.{Some, None}
use Rattle.std.specs.List.{AllAdjacentBelow, AllByRecursion}
use Rattle.std.specs.List.Sorted.{IsStrictlyIncreasing, IsStrictlySortedBy}
use Rattle.std.specs.Map.{keys_of}
use Rattle.std.specs.declared.cmp.Ordering.{Ordering}
use Rattle.std.specs.declared.cmp.Ordering.TheVariants.{Less}
use Rattle.std.specs.Ordering.{is_lt}
use Rattle.std.specs.FinMap.{find, is_sorted}
use Rattle.std.specs.FinMap.Entries.{below_all}
use Rattle.std.proofs.lemmas.Bool.Decides.{nat_tests}
use Rattle.std.proofs.lemmas.List.{get_or-map, length-map}
use Rattle.std.proofs.lemmas.Map.Keys.{IsDistinct-from_sorted}
use Rattle.reg_maps.specs.RowMaps.{AreApart, AreAscending}
use Rattle.reg_maps.proofs.Tests.{both, first, second}
use Rattle.reg_maps.proofs.Orderings.{less, not_eq_of_lt}

module _ {K X : Type 0} (R : K → K → Ordering) where
  -- no key below all is found
  pub find-below : (q : K) (es : List (K × X)) → T (below_all R q es) → find R q es ≡ None
  find-below q [] h = refl
  find-below q (e ∷ es) h =
      ap (λ b. cond b (Some e.1) (find R q es)) (not_eq_of_lt (R q e.0) (first _ _ h))
      ∙ find-below q es (second _ _ h)

  all_above : (k : K) (es : List (K × X)) → AllByRecursion (λ y. R k y ≡ Less) (keys_of es)
      → T (below_all R k es)
  all_above k [] h = tt
  all_above k (e ∷ es) h =
      both (is_lt (R k e.0)) (below_all R k es) (subst (λ r. T (is_lt r)) (sym h.0) tt)
      (all_above k es h.1)

  -- as a finite map tests its entries, and back
  pub is_sorted_from_ascending : (es : List (K × X)) → AreAscending R es → T (is_sorted R es)
  unfolding IsStrictlySortedBy
  is_sorted_from_ascending [] h = tt
  is_sorted_from_ascending (e ∷ es) h =
      both (below_all R e.0 es) (is_sorted R es) (all_above e.0 es h.0)
      (is_sorted_from_ascending es h.1)

  each_above : (k : K) (es : List (K × X)) → T (below_all R k es)
      → AllByRecursion (λ y. R k y ≡ Less) (keys_of es)
  each_above k [] h = tt
  each_above k (e ∷ es) h = (less (R k e.0) (first _ _ h), each_above k es (second _ _ h))

  pub ascending_from_is_sorted : (es : List (K × X)) → T (is_sorted R es) → AreAscending R es
  unfolding IsStrictlySortedBy
  ascending_from_is_sorted [] h = tt
  ascending_from_is_sorted (e ∷ es) h =
      (each_above e.0 es (first _ _ h), ascending_from_is_sorted es (second _ _ h))

  -- keys that ascend differ
  pub apart_from_ascending : (es : List (K × X)) → AreAscending R es → AreApart R es
  apart_from_ascending es up = IsDistinct-from_sorted R (keys_of es) up

-- rows of which each has a greater number than the one before it
pub increasing : {X : Type 0} (number : X → ℕ) (rows : List X)
    → AllAdjacentBelow (λ x y. true ≡ nat_lt (number x) (number y)) rows (length rows)
    → IsStrictlyIncreasing (map number rows)
increasing number [] up k inside = absurd (omega (arith, inside))
increasing number (x ∷ more) up k inside =
    let long = length-map (x ∷ more) number in
    let within : k + 1 < length (x ∷ more) = omega (arith, inside, long) in
    let less = up k x within in
    let first = get_or-map number (x ∷ more) k x 0 (omega (arith, within)) in
    let second = get_or-map number (x ∷ more) (k + 1) x 0 within in
    grind (arith, nat_tests)
