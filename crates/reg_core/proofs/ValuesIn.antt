-- The values of a registry are those at which it has an entry, and they ascend.
use Rattle.std.proofs.Common.{◌≡◌, ℕ, true, List, [], ◌∷◌, refl, sym, ap, subst, ◌∙◌, inl, inr, arith}
use Rattle.std.specs.Prelude.{Option, Some, None, Contains, IsTrue, ◌↔◌, is_some, map, option_and_then}
use Rattle.std.specs.declared.cmp.Ordering.TheVariants.{Less, Equal}
use Rattle.std.specs.FinMap.{FinMap, get, contains_key, entries, keys}
use Rattle.std.specs.List.{AllByRecursion}
use Rattle.std.specs.List.Sorted.{IsStrictlyIncreasing, IsStrictlySortedBy}
use Rattle.std.specs.Ordering.{nat_cmp, ordering_then}
use Rattle.std.proofs.lemmas.Cmp.{tied_itself}
use Rattle.std.proofs.lemmas.List.Elements.{All-map, recursion_from_All}
use Rattle.std.proofs.lemmas.Map.Keys.{IsStrictlyIncreasing-from_sorted}
use Rattle.std.proofs.lemmas.Simd.{map-map}
use Rattle.std.proofs.lemmas.Slice.Eq.{bytes_eq-Decides}
use Rattle.reg_maps.specs.Maps.{same_text, only_if, text_cmp}
use Rattle.reg_maps.proofs.MapLaws.{get-chosen, text_keys, get-select, All-entries, ascending-keys, Contains-map, Contains-entries}
use Rattle.reg_ranges.proofs.LeastGap.{has_cases}
use Rattle.reg_core.specs.Entry.{entry_row, page_entry}
use Rattle.reg_core.specs.LeastFree.{values_in}
use Rattle.reg_core.specs.Page.{entry_rows}
use Rattle.reg_core.specs.View.{entries_of}
use Rattle.reg_core.specs.World.{Place, place_cmp}
use Rattle.reg_core.specs.declared.entry.PageEntry.{PageEntry}
use Rattle.reg_core.specs.declared.entry.Registration.{Registration}
use Rattle.reg_core.proofs.SamenessIsDecided.{same_text-itself}
use Rattle.reg_core.proofs.KeyOrders.{place_keys}

module _ (registry : List ℕ) (m : FinMap place_cmp Registration) where
  -- an entry of the registry has a place of its own
  is_own : (place : Place) (a : Registration) → get (entries_of registry m) place ≡ Some a
      → place.0 ≡ registry
  is_own place a found =
      let is = get-chosen place_keys (λ place a. same_text place.0 registry) m place a found in
      (bytes_eq-Decides place.0 registry).0 is.1

  -- and stands at its value
  pub own_found : (place : Place) (a : Registration) → get (entries_of registry m) place ≡ Some a
      → get m (registry, place.1) ≡ Some a
  own_found place a found =
      let is = get-chosen place_keys (λ place a. same_text place.0 registry) m place a found in
      ap (λ name. get m (name, place.1)) (sym (is_own place a found)) ∙ is.0

  at_value : (place : Place) (a : Registration) → get (entries_of registry m) place ≡ Some a
      → contains_key m (registry, place.1) ≡ true
  at_value place a found = ap is_some (own_found place a found)

  -- one that stands at a value of the registry is its own
  pub found_own : (v : ℕ) (a : Registration) → get m (registry, v) ≡ Some a
      → get (entries_of registry m) (registry, v) ≡ Some a
  found_own v a is =
      get-select place_keys (λ place a. only_if (same_text place.0 registry) a) m (registry, v)
      ∙ ap (option_and_then (λ a. only_if (same_text registry registry) a)) is
      ∙ ap (λ b. only_if b a) (same_text-itself registry)

  at_values : (es : List (Place × Registration)) (v : ℕ)
      → AllByRecursion (λ e. contains_key m (registry, e.0.1) ≡ true) es
      → Contains (map (λ (e : Place × Registration). e.0.1) es) v
      → contains_key m (registry, v) ≡ true
  at_values [] v all has = absurd (let below = has.1 in omega arith)
  at_values (e ∷ es) v all has =
      elim (has_cases e.0.1 (map (λ e. e.0.1) es) v has) [
        | inl same ↦ ap (λ u. contains_key m (registry, u)) (sym same) ∙ all.0
        | inr more ↦ at_values es v all.1 more
      ]

  among : (v : ℕ) (at : Option Registration) → get m (registry, v) ≡ at → is_some at ≡ true
      → Contains (values_in registry m) v
  among v None is some = absurd (cc)
  among v (Some a) is some =
      Contains-map (λ (e : Place × Registration). e.0.1) (entries (entries_of registry m))
      ((registry, v), a)
      (Contains-entries place_keys (entries_of registry m) (registry, v) a (found_own v a is))

  pub has_entry : (v : ℕ)
      → IsTrue (contains_key m (registry, v)) ↔ Contains (values_in registry m) v
  has_entry v = (
    (λ some. among v (get m (registry, v)) refl some),
    (λ has. at_values (entries (entries_of registry m)) v
        (recursion_from_All (λ e. contains_key m (registry, e.0.1) ≡ true)
        (entries (entries_of registry m))
        (All-entries place_keys.total (λ e. contains_key m (registry, e.0.1) ≡ true)
        (entries_of registry m) at_value)) has),
  )

  -- the places of all entries of the registry are its own
  places_are_own : AllByRecursion (λ place. place.0 ≡ registry) (keys (entries_of registry m))
  places_are_own =
      recursion_from_All (λ place. place.0 ≡ registry) (keys (entries_of registry m))
      (All-map (λ place. place.0 ≡ registry) (λ e. e.0) (entries (entries_of registry m))
      (All-entries place_keys.total (λ e. e.0.0 ≡ registry) (entries_of registry m)
      is_own))

  -- of two of its places in order the values are in order
  value_below : (k l : Place) → k.0 ≡ registry → l.0 ≡ registry → place_cmp k l ≡ Less
      → nat_cmp k.1 l.1 ≡ Less
  value_below k l p q less =
      let tie : text_cmp k.0 l.0 ≡ Equal = rw (p, q) (tied_itself text_keys.total registry) in
      sym (ap (λ o. ordering_then o (nat_cmp k.1 l.1)) tie) ∙ less

  values_below : (k : Place) (ks : List Place) → k.0 ≡ registry
      → AllByRecursion (λ l. place_cmp k l ≡ Less) ks
      → AllByRecursion (λ l. l.0 ≡ registry) ks
      → AllByRecursion (λ v. nat_cmp k.1 v ≡ Less) (map (λ l. l.1) ks)
  values_below k [] p below own = tt
  values_below k (l ∷ ls) p below own =
      (value_below k l p own.0 below.0, values_below k ls p below.1 own.1)

  rising : (ks : List Place) → IsStrictlySortedBy place_cmp ks
      → AllByRecursion (λ k. k.0 ≡ registry) ks → IsStrictlySortedBy nat_cmp (map (λ k. k.1) ks)
  unfolding IsStrictlySortedBy
  rising [] sorted own = tt
  rising (k ∷ ks) sorted own =
      (values_below k ks own.0 sorted.0 own.1, rising ks sorted.1 own.1)

  -- the values of the registry ascend
  pub values_ascend : IsStrictlyIncreasing (values_in registry m)
  values_ascend =
      let own = entries_of registry m in
      subst IsStrictlyIncreasing (map-map (λ k. k.1) (λ e. e.0) (entries own))
      (IsStrictlyIncreasing-from_sorted (map (λ k. k.1) (keys own))
      (rising (keys own) (ascending-keys own) places_are_own))

  -- so do those of its entries as rows, with their places and on a page
  pub rows_ascend : IsStrictlyIncreasing (map (λ e. e.value) (entry_rows (entries_of registry m)))
  rows_ascend =
      let own = entries_of registry m in
      subst IsStrictlyIncreasing
      (sym (map-map (λ e. e.value) (λ e. entry_row e.0.0 e.0.1 e.1) (entries own)))
      values_ascend

  pub page_ascends : (today : ℕ) → IsStrictlyIncreasing
      (map (λ (row : PageEntry). row.value)
      (map (λ e. page_entry today e.0.1 e.1) (entries (entries_of registry m))))
  page_ascends today =
      let own = entries_of registry m in
      subst IsStrictlyIncreasing
      (sym (map-map (λ (row : PageEntry). row.value) (λ e. page_entry today e.0.1 e.1)
      (entries own)))
      values_ascend

  -- a value that is not among them has no entry
  pub no_entry : (v : ℕ) → ¬ (Contains (values_in registry m) v) → get m (registry, v) ≡ None
  no_entry v free = from (get m (registry, v)) refl
    where
      from : (at : Option Registration) → get m (registry, v) ≡ at → at ≡ None
      from None is = refl
      from (Some a) is = absurd (free ((has_entry v).0 (ap is_some is)))
