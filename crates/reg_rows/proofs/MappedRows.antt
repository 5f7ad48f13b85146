-- The rows of a map whose values are changed, each by its key.
use Rattle.std.proofs.Common.{◌≡◌, List, [], ◌∷◌, map, filter_map, Option, Some, None, option_map}
use Rattle.std.proofs.Common.{refl, sym, ap, ◌∙◌}
use Rattle.std.specs.FinMap.{FinMap, entries}
use Rattle.std.specs.List.{cons_option}
use Rattle.std.specs.declared.cmp.Ordering.{Ordering}
use Rattle.reg_maps.specs.Maps.{keyed, select}
use Rattle.reg_maps.proofs.MapLaws.{IsKeyOrder, entries-select}
use Rattle.reg_maps.proofs.Mapped.{mapped, select-mapped}

module _ {K X Y T : Type 0} (f : K → X → Option Y) (g : K → X → X) (item : K → Y → T) (h : T → T)
    (same : (k : K) (x : X)
    → option_map (item k) (f k (g k x)) ≡ option_map (λ y. h (item k y)) (f k x)) where
  one_more : (k : K) (a b : Option Y) (rest others : List (K × Y))
      → option_map (item k) b ≡ option_map (λ y. h (item k y)) a
      → map h (map (λ e. item e.0 e.1) rest) ≡ map (λ e. item e.0 e.1) others
      → map h (map (λ e. item e.0 e.1) (cons_option (keyed k a) rest))
      ≡ map (λ e. item e.0 e.1) (cons_option (keyed k b) others)
  one_more k None None rest others is more = more
  one_more k None (Some y) rest others is more = absurd (cc)
  one_more k (Some x) None rest others is more = absurd (cc)
  one_more k (Some x) (Some y) rest others is more =
      let first : item k y ≡ h (item k x) = cc in
      λ i. sym first i ∷ more i

  each_row : (es : List (K × X))
      → map h (map (λ e. item e.0 e.1) (filter_map (λ e. keyed e.0 (f e.0 e.1)) es))
      ≡ map (λ e. item e.0 e.1) (filter_map (λ e. keyed e.0 (f e.0 (g e.0 e.1))) es)
  each_row [] = refl
  each_row (e ∷ es) =
      one_more e.0 (f e.0 e.1) (f e.0 (g e.0 e.1))
      (filter_map (λ e. keyed e.0 (f e.0 e.1)) es)
      (filter_map (λ e. keyed e.0 (f e.0 (g e.0 e.1))) es)
      (same e.0 e.1) (each_row es)

  -- what is chosen of the map is changed in the same way
  pub rows_mapped : {R : K → K → Ordering} → IsKeyOrder R → (m : FinMap R X)
      → map h (map (λ e. item e.0 e.1) (entries (select f m)))
      ≡ map (λ e. item e.0 e.1) (entries (select f (mapped g m)))
  rows_mapped o m =
      ap (λ es. map h (map (λ e. item e.0 e.1) es)) (entries-select o f m) ∙ each_row (entries m)
      ∙ sym (ap (λ es. map (λ e. item e.0 e.1) es)
      (ap (λ m. entries m) (select-mapped o f g m) ∙ entries-select o (λ k x. f k (g k x)) m))
