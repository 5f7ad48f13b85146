-- What one registry more, and one range more, make of the registries that two maps hold.
use Rattle.std.proofs.Common.{◌≡◌, ℕ, ◌<◌, List, [], ◌∷◌, ◌++◌, true, false, cond, Some, None, Option, IsSome, map, refl, sym, ap, subst, ◌∙◌, option_map, option_and_then}
use Rattle.std.specs.declared.cmp.Ordering.{Ordering}
use Rattle.std.specs.declared.cmp.Ordering.TheVariants.{Less, Equal, Greater}
use Rattle.std.specs.FinMap.{FinMap, get, insert, entries, entries_sorted, find, get-entries}
use Rattle.std.specs.FinMap.Entries.{find-append}
use Rattle.std.specs.List.{AllByRecursion}
use Rattle.std.specs.List.Sorted.{IsStrictlySortedBy}
use Rattle.std.specs.Ordering.{eq_by_cmp, is_eq, nat_cmp, ordering_then, ordering_reverse}
use Rattle.std.specs.Cmp.{eq_by_cmp_equiv, nat_cmp_is}
use Rattle.std.proofs.lemmas.List.{map-append}
use Rattle.std.proofs.lemmas.List.Elements.{recursion_from_All}
use Rattle.reg_maps.specs.Maps.{only_if, same_text, text_cmp, update}
use Rattle.reg_maps.specs.RowMaps.{AreAscending}
use Rattle.reg_maps.proofs.MapLaws.{All-entries, IsKeyOrder, entries_are, get-at_insert, get-select, get-update}
use Rattle.reg_maps.proofs.MapLaws.{same_at, select-insert_unchosen, text_keys, tied}
use Rattle.reg_maps.proofs.Orderings.{equal}
use Rattle.reg_maps.proofs.KeyTests.{text_test}
use Rattle.reg_maps.proofs.Ascending.{ascending_from_is_sorted}
use Rattle.reg_ranges.specs.declared.range.Range.{Range}
use Rattle.reg_core.specs.World.{Place, place_cmp}
use Rattle.reg_core.proofs.KeyOrders.{place_keys}
use Rattle.reg_statements.specs.Content.{ranges_of, registries_in, registry_table}
use Rattle.reg_rows.specs.Registries.{with_range}
use Rattle.reg_statements.proofs.RegistryRows.{registry-at}
use Rattle.reg_rows.proofs.Found.{chosen_by, each_passes, itself, none_passes}

same_name : (a b : List ℕ) → same_text a b ≡ true → a ≡ b
same_name a b t = tied text_keys a b (sym (text_test a b) ∙ t)

missing : {X Y : Type 0} (r : Option X) (s : Option Y) → (IsSome r → IsSome s) → s ≡ None → r ≡ None
missing None s h none = refl
missing (Some x) s h none = absurd (let there = subst IsSome none (h refl) in cc)

-- what a registry's ranges have at a place
range-at : (name : List ℕ) (m : FinMap place_cmp Range) (q : Place)
    → get (ranges_of name m) q
    ≡ option_and_then (λ x. only_if (same_text q.0 name) x) (get m q)
range-at name m q =
    get-select place_keys (λ place range. only_if (same_text place.0 name) range) m q

-- ---- One registry more

no_ranges : (name : List ℕ) (m : FinMap place_cmp Range)
    → ((q : Place) → q.0 ≡ name → get m q ≡ None) → entries (ranges_of name m) ≡ []
unfolding IsStrictlySortedBy
no_ranges name m none =
    entries_are place_keys (ranges_of name m) [] tt (λ q. range-at name m q
    ∙ elim (same_text q.0 name) as (λ b. same_text q.0 name ≡ b
    → option_and_then (λ x. only_if b x) (get m q) ≡ None) [
      | true ↦ λ t. each_passes (get m q) ∙ none q (same_name q.0 name t)
      | false ↦ λ t. none_passes (get m q)
    ] refl)

pub registry_more : (largest : FinMap text_cmp ℕ) (m : FinMap place_cmp Range) (name : List ℕ)
    (max : ℕ) → get largest name ≡ None
    → ((place : Place) → IsSome (get m place) → IsSome (get largest place.0))
    → registries_in (insert largest name max) m
    ≡ insert (registries_in largest m) name (record { max = max; ranges = [] })
registry_more largest m name max none owned = same_at text_keys _ _ (λ q.
    registry-at (insert largest name max) m q
    ∙ ap (option_map (registry_table m q)) (get-at_insert text_keys largest name max q)
    ∙ elim (eq_by_cmp text_cmp q name) as (λ b. eq_by_cmp text_cmp q name ≡ b
    → option_map (registry_table m q) (cond b (Some max) (get largest q))
    ≡ cond b (Some (record { max = max; ranges = [] })) (get (registries_in largest m) q)) [
      | true ↦ λ t.
          let same = tied text_keys q name t in
          ap (λ es. Some (record { max = max; ranges = map (λ e. e.1) es }))
          (no_ranges q m (λ place here. missing (get m place) (get largest place.0) (owned place)
          (ap (get largest) (here ∙ same) ∙ none)))
      | false ↦ λ t. sym (registry-at largest m q)
    ] refl
    ∙ sym (get-at_insert text_keys (registries_in largest m) name _ q))

-- ---- One range more

apart : (r : Ordering) → r ≡ Less → is_eq (ordering_reverse r) ≡ false
apart Less h = refl
apart Equal h = absurd (cc)
apart Greater h = absurd (cc)

module _ {K X : Type 0} {R : K → K → Ordering} (o : IsKeyOrder R) (k : K) where
  abbrev AreUnder : List (K × X) → Type 0
  AreUnder = AllByRecursion (λ e. R e.0 k ≡ Less)

  free : (es : List (K × X)) → AreUnder es → find R k es ≡ None
  free [] under = refl
  free (e ∷ es) under =
      let differ : eq_by_cmp R k e.0 ≡ false =
      ap is_eq (o.total.antisymm k e.0) ∙ apart (R e.0 k) under.0 in
      ap (λ b. cond b (Some e.1) (find R k es)) differ ∙ free es under.1

  last_above : (x : K) (v : X) (es : List (K × X)) → R x k ≡ Less
      → AllByRecursion (λ y. R x y ≡ Less) (map (λ e. e.0) es)
      → AllByRecursion (λ y. R x y ≡ Less) (map (λ e. e.0) (es ++ (k, v) ∷ []))
  last_above x v [] less above = (less, tt)
  last_above x v (e ∷ es) less above = (above.0, last_above x v es less above.1)

  ascending_more : (v : X) (es : List (K × X)) → AreUnder es → AreAscending R es
      → AreAscending R (es ++ (k, v) ∷ [])
  unfolding IsStrictlySortedBy
  ascending_more v [] under up = (tt, tt)
  ascending_more v (e ∷ es) under up =
      (last_above e.0 v es under.0 up.0, ascending_more v es under.1 up.1)

-- each range is at its first value
abbrev pub AreAtFirst : FinMap place_cmp Range → Type 0
AreAtFirst m = (place : Place) (x : Range) → get m place ≡ Some x → place.1 ≡ x.lo

module _ (m : FinMap place_cmp Range) (name : List ℕ) (r : Range) (first : AreAtFirst m)
    (low : AllByRecursion (λ x. x.lo < r.lo) (map (λ e. e.1) (entries (ranges_of name m)))) where
  abbrev place : Place
  place = (name, r.lo)

  abbrev mine : List (Place × Range)
  mine = entries (ranges_of name m)

  IsMine : Place × Range → Type 0
  IsMine e = (e.0.0 ≡ name) × (e.0.1 ≡ e.1.lo)

  at_name : (q : Place) (x : Range) → get (ranges_of name m) q ≡ Some x → IsMine (q, x)
  unfolding IsMine
  at_name q x is =
      let it = chosen_by place_keys (λ place. place.0) name m q x is in
      (it.0, first q x it.1)

  under : (es : List (Place × Range)) → AllByRecursion IsMine es
      → AllByRecursion (λ x. x.lo < r.lo) (map (λ e. e.1) es)
      → AreUnder place_keys place es
  unfolding IsMine
  under [] all low = tt
  under (e ∷ es) all low =
      let less : e.0.1 < r.lo = subst (λ n. n < r.lo) (sym all.0.1) low.0 in (
        (λ i. ordering_then (text_cmp (all.0.0 i) name) (nat_cmp e.0.1 r.lo))
            ∙ ap (λ s. ordering_then s (nat_cmp e.0.1 r.lo))
            (equal (text_cmp name name) ((eq_by_cmp_equiv text_keys.total).refl name))
            ∙ sym (nat_cmp_is e.0.1 r.lo Less less),
        under es all.1 low.1,
      )

  all_under : AreUnder place_keys place mine
  all_under =
      under mine (recursion_from_All IsMine mine
      (All-entries place_keys.total IsMine (ranges_of name m) at_name)) low

  pub place_free : get m place ≡ None
  place_free =
      sym (each_passes (get m place))
      ∙ ap (λ b. option_and_then (λ x. only_if b x) (get m place)) (sym (itself name))
      ∙ sym (range-at name m place) ∙ get-entries (ranges_of name m) place
      ∙ free place_keys place mine all_under

  own_ranges : entries (ranges_of name (insert m place r)) ≡ mine ++ (place, r) ∷ []
  own_ranges =
      entries_are place_keys (ranges_of name (insert m place r)) (mine ++ (place, r) ∷ [])
      (ascending_more place_keys place r mine all_under
      (ascending_from_is_sorted place_cmp mine (entries_sorted (ranges_of name m)))) (λ q.
      range-at name (insert m place r) q
      ∙ ap (option_and_then (λ x. only_if (same_text q.0 name) x))
      (get-at_insert place_keys m place r q)
      ∙ elim (eq_by_cmp place_cmp q place) as (λ b. eq_by_cmp place_cmp q place ≡ b
      → option_and_then (λ x. only_if (same_text q.0 name) x) (cond b (Some r) (get m q))
      ≡ cond b (Some r) (find place_cmp q mine)) [
        | true ↦ λ t.
            let here = tied place_keys q place t in
            ap (λ b. only_if b r) (ap (λ (p : Place). same_text p.0 name) here ∙ itself name)
        | false ↦ λ t. sym (range-at name m q) ∙ get-entries (ranges_of name m) q
      ] refl
      ∙ sym (find-append place_cmp place_keys.total mine place r q
      (free place_keys place mine all_under)))

  other_ranges : (other : List ℕ) → eq_by_cmp text_cmp other name ≡ false
      → ranges_of other (insert m place r) ≡ ranges_of other m
  other_ranges other differ =
      let no : same_text name other ≡ false =
      text_test name other ∙ (eq_by_cmp_equiv text_keys.total).symm name other ∙ differ in
      select-insert_unchosen place_keys (λ place x. only_if (same_text place.0 other) x) m place
      (λ x. ap (λ b. only_if b x) no) r

  mapped : (max : ℕ) → registry_table (insert m place r) name max
      ≡ with_range r (registry_table m name max)
  mapped max =
      ap (λ es. record { max = max; ranges = map (λ e. e.1) es }) own_ranges
      ∙ ap (λ rs. record { max = max; ranges = rs }) (map-append (λ e. e.1) mine ((place, r) ∷ []))

  mapped_if : (largest : Option ℕ)
      → option_map (registry_table (insert m place r) name) largest
      ≡ option_map (with_range r) (option_map (registry_table m name) largest)
  mapped_if None = refl
  mapped_if (Some max) = ap (λ t. Some t) (mapped max)

  pub range_more : (largest : FinMap text_cmp ℕ)
      → registries_in largest (insert m place r)
      ≡ update (registries_in largest m) name (with_range r)
  range_more largest = same_at text_keys _ _ (λ q.
      registry-at largest (insert m place r) q
      ∙ elim (eq_by_cmp text_cmp q name) as (λ b. eq_by_cmp text_cmp q name ≡ b
      → option_map (registry_table (insert m place r) q) (get largest q)
      ≡ cond b (option_map (with_range r) (get (registries_in largest m) name))
      (get (registries_in largest m) q)) [
        | true ↦ λ t.
            let here = tied text_keys q name t in
            (λ i. option_map (registry_table (insert m place r) (here i)) (get largest (here i)))
            ∙ mapped_if (get largest name)
            ∙ ap (option_map (with_range r)) (sym (registry-at largest m name))
        | false ↦ λ t.
            ap (λ n. option_map (λ max. record { max = max; ranges = map (λ e. e.1) (entries n) })
            (get largest q)) (other_ranges q t)
            ∙ sym (registry-at largest m q)
      ] refl
      ∙ sym (get-update text_keys (registries_in largest m) name (with_range r) q))
