-- Lists of which no two elements are the same.
use Rattle.std.proofs.Common.{◌≡◌, ◌≢◌, ◌<◌, ℕ, zero, suc, List, [], ◌∷◌, ◌++◌, length, map, sym, ap, subst, ◌∙◌, arith}
use Rattle.std.specs.Prelude.{All, AllPairs, Contains, flat_map, slice_index_or}
use Rattle.std.specs.List.Sorted.{IsStrictlySortedBy}
use Rattle.std.specs.declared.cmp.Ordering.{Ordering}
use Rattle.std.proofs.lemmas.List.Concat.{flat_map-cons}
use Rattle.std.proofs.lemmas.List.Elements.{All-append, All-cons, All-head, All-map, All-nil, All-tail, Contains-append_left, Contains-append_right}
use Rattle.std.proofs.lemmas.List.Kept.{AllPairs-cons}
use Rattle.std.proofs.lemmas.Map.Keys.{IsDistinct-from_sorted, apart_from_distinct}
use Rattle.reg_core.proofs.Common.{IsKeyOrder, both_ways, eq_by_cmp, eq_by_cmp_equiv}

-- ---- The first element and the others

module _ {A : Type 0} (R : A → A → Type 0) where
  pub pairs_none : AllPairs R []
  pairs_none i j d below inside = absurd (omega (arith, inside))

  pub pairs_head : (x : A) (xs : List A) → AllPairs R (x ∷ xs) → All (R x) xs
  pairs_head x xs pairs k d inside = pairs 0 (suc k) d (omega arith) (omega (arith, inside))

  pub pairs_tail : (x : A) (xs : List A) → AllPairs R (x ∷ xs) → AllPairs R xs
  pairs_tail x xs pairs i j d below inside =
      pairs (suc i) (suc j) d (omega (arith, below)) (omega (arith, inside))

  -- two lists, each element of the first apart from each of the second
  pub pairs_append : (xs ys : List A) → AllPairs R xs → AllPairs R ys
      → All (λ x. All (R x) ys) xs → AllPairs R (xs ++ ys)
  pairs_append [] ys first second apart = second
  pairs_append (x ∷ xs) ys first second apart =
      AllPairs-cons R x (xs ++ ys)
      (All-append (R x) xs ys (pairs_head x xs first) (All-head (λ x. All (R x) ys) x xs apart))
      (pairs_append xs ys (pairs_tail x xs first) second (All-tail (λ x. All (R x) ys) x xs apart))

-- ---- What is shown of each

module _ {A B : Type 0} (f : B → A) where
  -- what holds of each that is shown
  pub all_shown : (P : A → Type 0) (xs : List B) → All P (map f xs) → All (λ x. P (f x)) xs
  all_shown P [] all = All-nil (λ x. P (f x))
  all_shown P (x ∷ xs) all =
      All-cons (λ x. P (f x)) x xs (All-head P (f x) (map f xs) all)
      (all_shown P xs (All-tail P (f x) (map f xs) all))

  module _ (R : A → A → Type 0) where
    pub pairs_map : (xs : List B) → AllPairs (λ a b. R (f a) (f b)) xs → AllPairs R (map f xs)
    pairs_map [] pairs = pairs_none R
    pairs_map (x ∷ xs) pairs =
        AllPairs-cons R (f x) (map f xs)
        (All-map (R (f x)) f xs (pairs_head (λ a b. R (f a) (f b)) x xs pairs))
        (pairs_map xs (pairs_tail (λ a b. R (f a) (f b)) x xs pairs))

    pub pairs_unmap : (xs : List B) → AllPairs R (map f xs) → AllPairs (λ a b. R (f a) (f b)) xs
    pairs_unmap [] pairs = pairs_none (λ a b. R (f a) (f b))
    pairs_unmap (x ∷ xs) pairs =
        AllPairs-cons (λ a b. R (f a) (f b)) x xs
        (all_shown (R (f x)) xs (pairs_head R (f x) (map f xs) pairs))
        (pairs_unmap xs (pairs_tail R (f x) (map f xs) pairs))

-- ---- One list after the other

module _ {A B : Type 0} (f : B → List A) where
  pub all_flat : (P : A → Type 0) (xs : List B) → All (λ x. All P (f x)) xs
      → All P (flat_map f xs)
  all_flat P [] all = All-nil P
  all_flat P (x ∷ xs) all =
      subst (All P) (sym (flat_map-cons f x xs))
      (All-append P (f x) (flat_map f xs) (All-head (λ x. All P (f x)) x xs all)
      (all_flat P xs (All-tail (λ x. All P (f x)) x xs all)))

  pub contains_flat : (xs : List B) (x : B) (y : A) (k : ℕ) → k < length xs
      → slice_index_or xs k x ≡ x → Contains (f x) y → Contains (flat_map f xs) y
  contains_flat [] x y k inside is has = absurd (omega (arith, inside))
  contains_flat (z ∷ zs) x y zero inside is has =
      subst (λ all. Contains all y) (sym (flat_map-cons f z zs))
      (Contains-append_left (f z) (flat_map f zs) y (subst (λ b. Contains (f b) y) (sym is) has))
  contains_flat (z ∷ zs) x y (suc k) inside is has =
      subst (λ all. Contains all y) (sym (flat_map-cons f z zs))
      (Contains-append_right (f z) (flat_map f zs) y
      (contains_flat zs x y k (omega (arith, inside)) is has))

  -- where no two of the first are the same, and so no two in each list of theirs, and none in two lists
  pub pairs_flat : (R : A → A → Type 0) → ((x : B) → AllPairs R (f x))
      → ((x y : B) → x ≢ y → All (λ a. All (R a) (f y)) (f x))
      → (xs : List B) → AllPairs (λ a b. a ≢ b) xs → AllPairs R (flat_map f xs)
  pairs_flat R own apart [] pairs = pairs_none R
  pairs_flat R own apart (x ∷ xs) pairs =
      subst (AllPairs R) (sym (flat_map-cons f x xs))
      (pairs_append R (f x) (flat_map f xs) (own x)
      (pairs_flat R own apart xs (pairs_tail (λ a b. a ≢ b) x xs pairs))
      (λ k d inside.
      all_flat (R (slice_index_or (f x) k d)) xs
      (λ i e within.
      apart x (slice_index_or xs i e) (pairs_head (λ a b. a ≢ b) x xs pairs i e within) k d inside)))

-- ---- Lists in order

pub apart_sorted : {K : Type 0} {R : K → K → Ordering} → IsKeyOrder R → (ks : List K)
    → IsStrictlySortedBy R ks → AllPairs (λ a b. a ≢ b) ks
apart_sorted {R = R} o ks sorted i j d below inside same =
    let a = slice_index_or ks i d in
    let b = slice_index_or ks j d in
    both_ways (eq_by_cmp R a b)
    (apart_from_distinct (eq_by_cmp R) ks i j d (IsDistinct-from_sorted R ks sorted) below inside)
    (ap (eq_by_cmp R a) (sym same) ∙ (eq_by_cmp_equiv o.total).refl a)
