-- Pairs of names in both orders, as they change, and as they are listed.
use Rattle.std.proofs.Common.{◌≡◌, ℕ, Bool, true, false, cond, List, [], ◌∷◌, map, refl, sym, ap, ◌∙◌}
use Rattle.std.specs.Prelude.{Option, Some, None, option_and_then}
use Rattle.std.specs.Cmp.{eq_by_cmp_equiv}
use Rattle.std.specs.FinMap.{entries, entries_sorted, find, get, get-entries, insert, remove}
use Rattle.std.specs.FinSet.{FinSet}
use Rattle.std.specs.List.{AllByRecursion}
use Rattle.std.specs.List.Sorted.{IsStrictlySortedBy}
use Rattle.std.specs.Ordering.{ordering_then}
use Rattle.std.specs.declared.cmp.Ordering.TheVariants.{Less, Equal}
use Rattle.std.proofs.lemmas.List.Elements.{recursion_from_All}
use Rattle.std.proofs.lemmas.Simd.{map-map}
use Rattle.std.proofs.lemmas.Slice.Eq.{bytes_eq-Decides}
use Rattle.reg_maps.specs.Maps.{only_if, same_text, text_cmp}
use Rattle.reg_maps.specs.Groups.{group_at}
use Rattle.reg_maps.specs.RowMaps.{AreAscending}
use Rattle.reg_maps.proofs.Ascending.{ascending_from_is_sorted}
use Rattle.reg_maps.proofs.FiniteMaps.InOrder.{text_group}
use Rattle.reg_maps.proofs.KeyTests.{pair_turned}
use Rattle.reg_maps.proofs.MapLaws.{All-entries, IsKeyOrder, entries_are, get-at_insert, get-at_remove, get-select}
use Rattle.reg_maps.proofs.MapLaws.{pair_keys, text_keys}
use Rattle.reg_maps.proofs.Orderings.{equal}
use Rattle.reg_store.specs.Lists.Pairs.{AreMirrored, NamePair, firsts_of, names_cmp, seconds_of}
use Rattle.reg_store.specs.Lists.Pairs.{with_first, with_second}

pub names_keys : IsKeyOrder names_cmp
names_keys = pair_keys text_keys text_keys

-- ---- In both orders

module _ (pairs turned : FinSet names_cmp) (are : AreMirrored pairs turned) (a b : List ℕ) where
  -- a pair is added
  pub mirrored-added : AreMirrored (insert pairs (a, b) tt) (insert turned (b, a) tt)
  mirrored-added first second =
      get-at_insert names_keys turned (b, a) tt (second, first)
      ∙ (λ i. cond (pair_turned text_cmp text_cmp (second, first) (b, a) i) (Some tt) (are first second i))
      ∙ sym (get-at_insert names_keys pairs (a, b) tt (first, second))

  -- a pair is taken away
  pub mirrored-taken : AreMirrored (remove pairs (a, b)) (remove turned (b, a))
  mirrored-taken first second =
      get-at_remove names_keys turned (b, a) (second, first)
      ∙ (λ i. cond (pair_turned text_cmp text_cmp (second, first) (b, a) i) None (are first second i))
      ∙ sym (get-at_remove names_keys pairs (a, b) (first, second))

-- ---- As they are listed

-- the pairs that have a name first are those of its group
pub seconds-group : (pairs : FinSet names_cmp) (name : List ℕ)
    → seconds_of name pairs
    ≡ map (λ (e : NamePair × Unit {0}). e.0.1) (entries (group_at text_cmp pairs name))
seconds-group pairs name =
    map-map (λ (pair : NamePair). pair.1) (λ (e : NamePair × Unit {0}). e.0)
    (entries (with_first name pairs))
    ∙ ap (λ m. map (λ (e : NamePair × Unit {0}). e.0.1) (entries m)) (text_group pairs name)

-- a pair in the other order
abbrev turn : NamePair × Unit {0} → NamePair × Unit {0}
turn e = ((e.0.1, e.0.0), e.1)

find-turned : (q : NamePair) (es : List (NamePair × Unit {0}))
    → find names_cmp q (map turn es) ≡ find names_cmp (q.1, q.0) es
find-turned q [] = refl
find-turned q (e ∷ es) =
    λ i. cond (pair_turned text_cmp text_cmp q (e.0.1, e.0.0) i) (Some e.1) (find-turned q es i)

module _ (name : List ℕ) where
  -- each pair has this name first
  abbrev AreOf : List (NamePair × Unit {0}) → Type 0
  AreOf es = AllByRecursion (λ e. e.0.0 ≡ name) es

  -- then they are in order by their second parts
  less-turned : (x y : NamePair) → x.0 ≡ name → y.0 ≡ name → names_cmp x y ≡ Less
      → names_cmp (x.1, x.0) (y.1, y.0) ≡ Less
  less-turned x y here there less =
      let same : text_cmp x.0 y.0 ≡ Equal =
      ap (text_cmp x.0) (there ∙ sym here) ∙ equal _ ((eq_by_cmp_equiv text_keys.total).refl x.0) in
      let seconds : text_cmp x.1 y.1 ≡ Less =
      ap (λ r. ordering_then r (text_cmp x.1 y.1)) (sym same) ∙ less in
      ap (λ r. ordering_then r (text_cmp x.0 y.0)) seconds

  below-turned : (x : NamePair) (es : List (NamePair × Unit {0})) → x.0 ≡ name → AreOf es
      → AllByRecursion (λ y. names_cmp x y ≡ Less) (map (λ e. e.0) es)
      → AllByRecursion (λ y. names_cmp (x.1, x.0) y ≡ Less) (map (λ e. e.0) (map turn es))
  below-turned x [] here of below = tt
  below-turned x (e ∷ es) here of below =
      (less-turned x e.0 here of.0 below.0, below-turned x es here of.1 below.1)

  ascending-turned : (es : List (NamePair × Unit {0})) → AreOf es → AreAscending names_cmp es
      → AreAscending names_cmp (map turn es)
  unfolding IsStrictlySortedBy
  ascending-turned [] of up = tt
  ascending-turned (e ∷ es) of up =
      (below-turned e.0 es of.0 of.1 up.0, ascending-turned es of.1 up.1)

  has_first : (pairs : FinSet names_cmp) (pair : NamePair) (u : Unit {0})
      → get (with_first name pairs) pair ≡ Some u → pair.0 ≡ name
  has_first pairs pair u is =
      by (get pairs pair) (same_text pair.0 name) refl
      (sym (get-select names_keys (λ pair u. only_if (same_text pair.0 name) u) pairs pair) ∙ is)
    where
      by : (o : Option (Unit {0})) (b : Bool) → same_text pair.0 name ≡ b
          → option_and_then (λ x. only_if b x) o ≡ Some u → pair.0 ≡ name
      by None b t e = absurd (cc)
      by (Some x) true t e = (bytes_eq-Decides pair.0 name).0 t
      by (Some x) false t e = absurd (cc)

-- so the pairs that have a name second are listed as those that have it first in the other order
pub firsts-mirrored : (pairs turned : FinSet names_cmp) → AreMirrored pairs turned
    → (name : List ℕ) → seconds_of name turned ≡ firsts_of name pairs
firsts-mirrored pairs turned are name =
    let own = entries (with_first name turned) in
    let of : AreOf name own =
    recursion_from_All (λ e. e.0.0 ≡ name) own (All-entries names_keys.total (λ e. e.0.0 ≡ name)
    (with_first name turned) (has_first name turned)) in
    let same : entries (with_second name pairs) ≡ map turn own =
    entries_are names_keys (with_second name pairs) (map turn own)
    (ascending-turned name own of
    (ascending_from_is_sorted names_cmp own (entries_sorted (with_first name turned)))) (λ q.
    get-select names_keys (λ pair u. only_if (same_text pair.1 name) u) pairs q
    ∙ ap (option_and_then (λ u. only_if (same_text q.1 name) u)) (sym (are q.0 q.1))
    ∙ sym (get-select names_keys (λ pair u. only_if (same_text pair.0 name) u) turned (q.1, q.0))
    ∙ get-entries (with_first name turned) (q.1, q.0) ∙ sym (find-turned q own)) in
    map-map (λ (pair : NamePair). pair.1) (λ (e : NamePair × Unit {0}). e.0) own
    ∙ sym (map-map (λ (e : NamePair × Unit {0}). e.0.0) turn own)
    ∙ sym (map-map (λ (pair : NamePair). pair.0) (λ (e : NamePair × Unit {0}). e.0) (map turn own))
    ∙ sym (ap (λ es. map (λ (pair : NamePair). pair.0) (map (λ e. e.0) es)) same)
