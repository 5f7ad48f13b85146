-- Lists that are read by a partial function: in another order, filtered, and loaded.
use Rattle.std.proofs.Common.{◌≡◌, ℕ, zero, suc, ◌<◌, Bool, true, false, cond, List, [], ◌∷◌}
use Rattle.std.proofs.Common.{length, get_or, set, swap, map, filter, filter_map, refl, sym, ap}
use Rattle.std.proofs.Common.{◌∙◌, arith, Option, Some, None, IsSome, IsPermutation, is_some}
use Rattle.std.specs.List.{AllByRecursion, cons_option}
use Rattle.std.proofs.lemmas.List.Elements.{All-from_recursion, recursion_from_All}
use Rattle.std.proofs.lemmas.List.Sorted.{IsPermutation-refl, IsPermutation-keeps}
use Rattle.std.proofs.lemmas.List.Sorted.{IsPermutation-trans, IsPermutation-cons}
use Rattle.std.proofs.lemmas.List.Sorted.{IsPermutation-middle, All-permutation}
use Rattle.std.proofs.lemmas.Simd.{map-map}

-- A relation of lists holds along each permutation, where it is reflexive and transitive, and
-- holds under a head and over an exchange of two heads.
module _ {X : Type 0} (P : List X → List X → Type 0) (same : (xs : List X) → P xs xs)
    (skip : (x : X) (xs ys : List X) → P xs ys → P (x ∷ xs) (x ∷ ys))
    (turn : (x y : X) (xs : List X) → P (x ∷ y ∷ xs) (y ∷ x ∷ xs))
    (chain : (xs ys zs : List X) → P xs ys → P ys zs → P xs zs) where
  to_head : (xs : List X) (j : ℕ) (x d : X) → j < length xs
      → P (x ∷ xs) (get_or xs j d ∷ set xs j x)
  to_head [] j x d h = absurd (omega arith)
  to_head (y ∷ xs) zero x d h = turn x y xs
  to_head (y ∷ xs) (suc j) x d h =
      chain _ _ _ (turn x y xs)
      (chain _ _ _ (skip y _ _ (to_head xs j x d (omega arith)))
      (turn y (get_or xs j d) (set xs j x)))

  exchanged : (xs : List X) (i j : ℕ) (d : X) → i < length xs → j < length xs
      → P xs (set (set xs i (get_or xs j d)) j (get_or xs i d))
  exchanged [] i j d p q = absurd (omega arith)
  exchanged (x ∷ xs) zero zero d p q = same (x ∷ xs)
  exchanged (x ∷ xs) zero (suc j) d p q = to_head xs j x d (omega arith)
  exchanged (x ∷ xs) (suc i) zero d p q = to_head xs i x d (omega arith)
  exchanged (x ∷ xs) (suc i) (suc j) d p q =
      skip x _ _ (exchanged xs i j d (omega arith) (omega arith))

  swapped : (xs : List X) (i j : ℕ) → i < length xs → j < length xs → P xs (swap xs i j)
  swapped [] i j p q = same []
  swapped (x ∷ xs) i j p q = exchanged (x ∷ xs) i j x p q

  pub along_permutation : (xs ys : List X) → IsPermutation xs ys → P xs ys
  along_permutation xs =
      IsPermutation-keeps xs (P xs) (same xs)
      (λ ys i j p q h. chain xs ys _ h (swapped ys i j p q))

-- what holds of each element holds of each in another order
pub all_permuted : {A : Type 0} (P : A → Type 0) (xs ys : List A) → IsPermutation xs ys
    → AllByRecursion P xs → AllByRecursion P ys
all_permuted P xs ys moved all =
    recursion_from_All P ys (All-permutation P xs ys moved (All-from_recursion P xs all))

module _ {A E : Type 0} (of : A → Option E) where
  more : (r : Option E) (xs ys : List E) → IsPermutation xs ys
      → IsPermutation (cons_option r xs) (cons_option r ys)
  more None xs ys h = h
  more (Some e) xs ys h = IsPermutation-cons e xs ys h

  turned : (r s : Option E) (xs : List E)
      → IsPermutation (cons_option r (cons_option s xs)) (cons_option s (cons_option r xs))
  turned None s xs = IsPermutation-refl _
  turned (Some e) None xs = IsPermutation-refl _
  turned (Some e) (Some f) xs = IsPermutation-middle (e ∷ []) f xs

  -- what is read of rows in another order is the same in another order
  pub IsPermutation-filter_map : (xs ys : List A) → IsPermutation xs ys
      → IsPermutation (filter_map of xs) (filter_map of ys)
  IsPermutation-filter_map =
      along_permutation (λ xs ys. IsPermutation (filter_map of xs) (filter_map of ys))
      (λ xs. IsPermutation-refl _)
      (λ x xs ys. more (of x) (filter_map of xs) (filter_map of ys))
      (λ x y xs. turned (of x) (of y) (filter_map of xs))
      (λ xs ys zs. IsPermutation-trans _ _ _)

  -- the entries of the rows that pass a test are the entries that pass it
  pub filter_map-filter : (test : A → Bool) (keeps : E → Bool)
      → ((row : A) (e : E) → of row ≡ Some e → test row ≡ keeps e) → (rows : List A)
      → filter_map of (filter test rows) ≡ filter keeps (filter_map of rows)
  filter_map-filter test keeps agree [] = refl
  filter_map-filter test keeps agree (row ∷ rows) =
      let kept = filter test rows in
      let rest = filter_map-filter test keeps agree rows in
      elim (of row) as (λ r. of row ≡ r → filter_map of (cond (test row) (row ∷ kept) kept)
      ≡ filter keeps (cons_option r (filter_map of rows))) [
        | None ↦ λ is. elim (test row) as
            (λ b. filter_map of (cond b (row ∷ kept) kept) ≡ filter keeps (filter_map of rows)) [
              | true ↦ ap (λ r. cons_option r (filter_map of kept)) is ∙ rest
              | false ↦ rest
            ]
        | Some e ↦ λ is.
            ap (λ b. filter_map of (cond b (row ∷ kept) kept)) (agree row e is)
            ∙ elim (keeps e) as (λ b. filter_map of (cond b (row ∷ kept) kept)
            ≡ cond b (e ∷ filter keeps (filter_map of rows))
            (filter keeps (filter_map of rows))) [
              | true ↦ ap (λ r. cons_option r (filter_map of kept)) is ∙ ap (λ es. e ∷ es) rest
              | false ↦ rest
            ]
      ] refl

  -- rows that all read as these entries
  pub filter_map-loaded : (rows : List A) (es : List E) → map of rows ≡ map Some es
      → filter_map of rows ≡ es
  filter_map-loaded [] [] h = refl
  filter_map-loaded [] (e ∷ es) h = absurd (cc)
  filter_map-loaded (row ∷ rows) [] h = absurd (cc)
  filter_map-loaded (row ∷ rows) (e ∷ es) h =
      let first : of row ≡ Some e = cc in
      let rest : map of rows ≡ map Some es = cc in
      ap (λ r. cons_option r (filter_map of rows)) first
      ∙ ap (λ es. e ∷ es) (filter_map-loaded rows es rest)

  pub reads-loaded : (rows : List A) (es : List E) → map of rows ≡ map Some es
      → AllByRecursion (λ row. IsSome (of row)) rows
  reads-loaded [] es h = tt
  reads-loaded (row ∷ rows) [] h = absurd (cc)
  reads-loaded (row ∷ rows) (e ∷ es) h =
      let first : of row ≡ Some e = cc in
      let rest : map of rows ≡ map Some es = cc in
      (ap is_some first, reads-loaded rows es rest)

-- what is read of the rows that pass a test
pub all_filtered : {A : Type 0} (P : A → Type 0) (test : A → Bool) (rows : List A)
    → AllByRecursion P rows → AllByRecursion P (filter test rows)
all_filtered P test [] all = tt
all_filtered P test (row ∷ rows) all =
    let rest = all_filtered P test rows all.1 in
    elim (test row) as
    (λ b. AllByRecursion P (cond b (row ∷ filter test rows) (filter test rows)))
    [ true ↦ (all.0, rest) | false ↦ rest ]

pub filter_true : {A : Type 0} (rows : List A) → filter (λ row. true) rows ≡ rows
filter_true [] = refl
filter_true (row ∷ rows) = ap (λ rest. row ∷ rest) (filter_true rows)

-- ---- Rows that are shown

module _ {A B : Type 0} (show : A → B) where
  ShowsMoved : List B → List B → Type 0
  ShowsMoved us ys = (xs : List A) → us ≡ map show xs
      → (zs : List A) × IsPermutation xs zs × (ys ≡ map show zs)

  skipped : (u : B) (us ys : List B) → ShowsMoved us ys → ShowsMoved (u ∷ us) (u ∷ ys)
  unfolding ShowsMoved
  skipped u us ys h [] is = absurd (cc)
  skipped u us ys h (x ∷ xs) is =
      let first : u ≡ show x = cc in
      let rest : us ≡ map show xs = cc in
      let r = h xs rest in
      (x ∷ r.0, IsPermutation-cons x xs r.0 r.1, λ i. first i ∷ r.2 i)

  turned_shown : (u v : B) (us : List B) → ShowsMoved (u ∷ v ∷ us) (v ∷ u ∷ us)
  unfolding ShowsMoved
  turned_shown u v us [] is = absurd (cc)
  turned_shown u v us (x ∷ []) is = absurd (cc)
  turned_shown u v us (x ∷ y ∷ xs) is =
      let first : u ≡ show x = cc in
      let second : v ≡ show y = cc in
      let rest : us ≡ map show xs = cc in
      (y ∷ x ∷ xs, IsPermutation-middle (x ∷ []) y xs, λ i. second i ∷ first i ∷ rest i)

  -- what is shown of rows in another order is shown of the rows in another order
  pub IsPermutation-unmap : (xs : List A) (ys : List B) → IsPermutation (map show xs) ys
      → (zs : List A) × IsPermutation xs zs × (ys ≡ map show zs)
  unfolding ShowsMoved
  IsPermutation-unmap xs ys moved =
      along_permutation ShowsMoved
      (λ us xs is. (xs, IsPermutation-refl xs, is))
      skipped turned_shown
      (λ us ys zs h k xs is.
      let r = h xs is in
      let s = k r.0 r.2 in
      (s.0, IsPermutation-trans xs r.0 s.0 r.1 s.1, s.2))
      (map show xs) ys moved xs refl

-- rows that were shown and then read are rows that were read
pub shown_rows : {A B E : Type 0} (show : A → B) (of : B → Option E) {rows : List A}
    {shown : List B} (es : List E) → IsPermutation (map show rows) shown
    → map of shown ≡ map Some es
    → (taken : List A) × IsPermutation rows taken
    × (map (λ row. of (show row)) taken ≡ map Some es)
shown_rows show of {rows} {shown} es moved read =
    let r = IsPermutation-unmap show rows shown moved in
    (r.0, r.1, sym (map-map of show r.0) ∙ ap (map of) (sym r.2) ∙ read)
