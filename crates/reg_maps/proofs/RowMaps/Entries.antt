-- Lists of entries of which no two have one key: what is found in them.
use Rattle.std.proofs.Common.{◌≡◌, Bool, true, false, cond, List, [], ◌∷◌, map, filter}
use Rattle.std.proofs.Common.{refl, sym, ap, subst, ◌∙◌, IsPermutation}
use Rattle.std.proofs.Common.{Option, Some, None, option_and_then, filter_map}
use Rattle.std.specs.List.{AllByRecursion, cons_option}
use Rattle.std.specs.Map.{keys_of}
use Rattle.std.specs.declared.cmp.Ordering.{Ordering}
use Rattle.std.specs.Ordering.{eq_by_cmp}
use Rattle.std.specs.Cmp.{eq_by_cmp_equiv}
use Rattle.std.specs.FinMap.{find}
use Rattle.std.proofs.lemmas.List.Sorted.{IsPermutation-refl, IsPermutation-trans}
use Rattle.std.proofs.lemmas.List.Sorted.{IsPermutation-cons, IsPermutation-middle}
use Rattle.std.proofs.lemmas.List.Sorted.{IsPermutation-map}
use Rattle.std.proofs.lemmas.Map.Keys.{IsDistinct-head, IsDistinct-tail, IsDistinct-cons}
use Rattle.std.proofs.lemmas.Map.Keys.{IsDistinct-IsPermutation}
use Rattle.reg_maps.specs.Maps.{keyed, only_if}
use Rattle.reg_maps.specs.RowMaps.{AreApart}
use Rattle.reg_maps.proofs.MapLaws.{IsKeyOrder, tied}
use Rattle.reg_maps.proofs.RowMaps.Lists.{along_permutation}

-- no entry has this key
abbrev pub IsFree : {K X : Type 0} → (K → K → Ordering) → K → List (K × X) → Type 0
IsFree R k es = AllByRecursion (λ y. eq_by_cmp R k y ≡ false) (keys_of es)

module _ {K X : Type 0} (R : K → K → Ordering) where
  pub find-free : (k : K) (es : List (K × X)) → IsFree R k es → find R k es ≡ None
  find-free k [] h = refl
  find-free k (e ∷ es) h =
      ap (λ b. cond b (Some e.1) (find R k es)) h.0 ∙ find-free k es h.1

  pub free_from_none : (k : K) (es : List (K × X)) → find R k es ≡ None → IsFree R k es
  free_from_none k [] none = tt
  free_from_none k (e ∷ es) none =
      elim (eq_by_cmp R k e.0) as (λ b. eq_by_cmp R k e.0 ≡ b
      → cond b (Some e.1) (find R k es) ≡ None → IsFree R k (e ∷ es)) [
        | true ↦ λ t none. absurd (cc)
        | false ↦ λ t none. (t, free_from_none k es none)
      ] refl none

  pub apart_tail : (e : K × X) (es : List (K × X)) → AreApart R (e ∷ es) → AreApart R es
  apart_tail e es = IsDistinct-tail (eq_by_cmp R) e.0 (keys_of es)

  pub apart_head : (e : K × X) (es : List (K × X)) → AreApart R (e ∷ es) → IsFree R e.0 es
  apart_head e es = IsDistinct-head (eq_by_cmp R) e.0 (keys_of es)

  pub apart_more : (e : K × X) (es : List (K × X)) → IsFree R e.0 es → AreApart R es
      → AreApart R (e ∷ es)
  apart_more e es = IsDistinct-cons (eq_by_cmp R) e.0 (keys_of es)

module _ {K X : Type 0} {R : K → K → Ordering} (o : IsKeyOrder R) where
  -- ---- In another order

  pub apart_permuted : (es fs : List (K × X)) → IsPermutation es fs → AreApart R es
      → AreApart R fs
  apart_permuted es fs moved =
      IsDistinct-IsPermutation (eq_by_cmp R) (eq_by_cmp_equiv o.total).symm (keys_of es)
      (keys_of fs) (IsPermutation-map (λ e. e.0) es fs moved)

  -- two entries in each other's place, where their keys differ
  find_turned : (q : K) (x y : K × X) (es : List (K × X)) → eq_by_cmp R x.0 y.0 ≡ false
      → find R q (x ∷ y ∷ es) ≡ find R q (y ∷ x ∷ es)
  find_turned q x y es differ =
      elim (eq_by_cmp R q x.0) as (λ b. eq_by_cmp R q x.0 ≡ b
      → cond b (Some x.1) (find R q (y ∷ es))
      ≡ cond (eq_by_cmp R q y.0) (Some y.1) (cond b (Some x.1) (find R q es))) [
        | true ↦ λ t.
            let no : eq_by_cmp R q y.0 ≡ false =
            ap (λ k. eq_by_cmp R k y.0) (tied o q x.0 t) ∙ differ in
            sym (ap (λ b. cond b (Some y.1) (Some x.1)) no)
        | false ↦ λ t. refl
      ] refl

  Alike : K → List (K × X) → List (K × X) → Type 0
  Alike q es fs = IsPermutation es fs × (AreApart R es → find R q es ≡ find R q fs)

  alike_permuted : (q : K) (es fs : List (K × X)) → IsPermutation es fs → Alike q es fs
  unfolding Alike
  alike_permuted q = along_permutation (Alike q)
      (λ es. (IsPermutation-refl es, λ apart. refl))
      (λ e es fs h. (
        IsPermutation-cons e es fs h.0,
        λ apart. ap (cond (eq_by_cmp R q e.0) (Some e.1)) (h.1 (apart_tail R e es apart)),
      ))
      (λ x y es. (
        IsPermutation-middle (x ∷ []) y es,
        λ apart. find_turned q x y es (apart_head R x (y ∷ es) apart).0,
      ))
      (λ es fs gs h i. (
        IsPermutation-trans es fs gs h.0 i.0,
        λ apart. h.1 apart ∙ i.1 (apart_permuted es fs h.0 apart),
      ))

  -- a key has one value in each order of the entries
  pub find_permuted : (q : K) (es fs : List (K × X)) → IsPermutation es fs → AreApart R es
      → find R q es ≡ find R q fs
  unfolding Alike
  find_permuted q es fs moved = (alike_permuted q es fs moved).1

  -- ---- Chosen with other values

  -- what a function chooses of entries has for a key what it makes of its value
  pub find_selected : {Y : Type 0} (f : K → X → Option Y) (q : K) (es : List (K × X))
      → AreApart R es → find R q (filter_map (λ e. keyed e.0 (f e.0 e.1)) es)
      ≡ option_and_then (f q) (find R q es)
  find_selected f q [] apart = refl
  find_selected {Y = Y} f q (e ∷ es) apart =
      let rest = find_selected f q es (apart_tail R e es apart) in
      let more = filter_map (λ (e : K × X). keyed e.0 (f e.0 e.1)) es in
      elim (eq_by_cmp R q e.0) as (λ b. eq_by_cmp R q e.0 ≡ b
      → find R q (cons_option (keyed e.0 (f e.0 e.1)) more)
      ≡ option_and_then (f q) (cond b (Some e.1) (find R q es))) [
        | true ↦ λ t.
            let same = tied o q e.0 t in
            let none = find-free R q es (subst (λ k. IsFree R k es) (sym same)
            (apart_head R e es apart)) in
            here (f e.0 e.1) more t (rest ∙ ap (option_and_then (f q)) none)
            ∙ ap (λ k. f k e.1) (sym same)
        | false ↦ λ t. there (f e.0 e.1) more t ∙ rest
      ] refl
    where
      here : (o : Option Y) (more : List (K × Y)) → eq_by_cmp R q e.0 ≡ true
          → find R q more ≡ None → find R q (cons_option (keyed e.0 o) more) ≡ o
      here None more t none = none
      here (Some y) more t none = ap (λ b. cond b (Some y) (find R q more)) t

      there : (o : Option Y) (more : List (K × Y)) → eq_by_cmp R q e.0 ≡ false
          → find R q (cons_option (keyed e.0 o) more) ≡ find R q more
      there None more t = refl
      there (Some y) more t = ap (λ b. cond b (Some y) (find R q more)) t

  -- ---- Filtered

  module _ (p : K → X → Bool) where
    abbrev passing : List (K × X) → List (K × X)
    passing es = filter (λ e. p e.0 e.1) es

    free_filtered : (k : K) (es : List (K × X)) → IsFree R k es → IsFree R k (passing es)
    free_filtered k [] free = tt
    free_filtered k (e ∷ es) free =
        let rest = free_filtered k es free.1 in
        elim (p e.0 e.1) as (λ b. IsFree R k (cond b (e ∷ passing es) (passing es)))
        [ true ↦ (free.0, rest) | false ↦ rest ]

    pub apart_filtered : (es : List (K × X)) → AreApart R es → AreApart R (passing es)
    apart_filtered [] apart = apart
    apart_filtered (e ∷ es) apart =
        let rest = apart_filtered es (apart_tail R e es apart) in
        let free = free_filtered e.0 es (apart_head R e es apart) in
        elim (p e.0 e.1) as (λ b. AreApart R (cond b (e ∷ passing es) (passing es)))
        [ true ↦ apart_more R e (passing es) free rest | false ↦ rest ]

    -- a filter chooses the values of the keys that pass
    filter_chooses : (es : List (K × X))
        → passing es ≡ filter_map (λ e. keyed e.0 (only_if (p e.0 e.1) e.1)) es
    filter_chooses [] = refl
    filter_chooses (e ∷ es) =
        let more = filter_map (λ (e : K × X). keyed e.0 (only_if (p e.0 e.1) e.1)) es in
        elim (p e.0 e.1) as (λ b. cond b (e ∷ passing es) (passing es)
        ≡ cons_option (keyed e.0 (only_if b e.1)) more)
        [ true ↦ ap (λ l. e ∷ l) (filter_chooses es) | false ↦ filter_chooses es ]

    pub find_filtered : (q : K) (es : List (K × X)) → AreApart R es
        → find R q (passing es) ≡ option_and_then (λ x. only_if (p q x) x) (find R q es)
    find_filtered q es apart =
        ap (find R q) (filter_chooses es)
        ∙ find_selected (λ k x. only_if (p k x) x) q es apart

  -- ---- Changed

  -- each with another value
  module _ (g : K → X → X) where
    abbrev pub changed_by : K × X → K × X
    changed_by e = (e.0, g e.0 e.1)

    pub keys_changed : (es : List (K × X)) → keys_of (map changed_by es) ≡ keys_of es
    keys_changed [] = refl
    keys_changed (e ∷ es) = ap (λ ks. e.0 ∷ ks) (keys_changed es)

    pub find_changed : (q : K) (es : List (K × X)) → find R q (map changed_by es)
        ≡ option_and_then (λ x. Some (g q x)) (find R q es)
    find_changed q [] = refl
    find_changed q (e ∷ es) =
        elim (eq_by_cmp R q e.0) as (λ b. eq_by_cmp R q e.0 ≡ b
        → cond b (Some (g e.0 e.1)) (find R q (map changed_by es))
        ≡ option_and_then (λ x. Some (g q x)) (cond b (Some e.1) (find R q es))) [
          | true ↦ λ t. ap (λ key. Some (g key e.1)) (sym (tied o q e.0 t))
          | false ↦ λ t. find_changed q es
        ] refl
