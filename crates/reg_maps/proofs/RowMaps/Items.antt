-- Rows that are read as items, each of which is the value of a key.
use Rattle.std.proofs.Common.{◌≡◌, Bool, List, [], ◌∷◌, map, filter}
use Rattle.std.proofs.Common.{refl, sym, subst, ◌∙◌, Option, Some}
use Rattle.std.proofs.Common.{None, IsPermutation, option_map}
use Rattle.std.specs.List.Sorted.{IsStrictlySortedBy}
use Rattle.std.specs.declared.cmp.Ordering.{Ordering}
use Rattle.std.specs.Ordering.{eq_by_cmp}
use Rattle.std.specs.FinMap.{entries}
use Rattle.std.proofs.lemmas.Simd.{map-map}
use Rattle.reg_maps.specs.Maps.{only_if, select}
use Rattle.reg_maps.specs.RowMaps.{held_in, AreAscending, IsTable, PassesAt, PassesWhere}
use Rattle.reg_maps.proofs.MapLaws.{IsKeyOrder}
use Rattle.reg_maps.proofs.RowMaps.Loads as rows

module _ {A K X T : Type 0} {R : K → K → Ordering} (o : IsKeyOrder R) (pair : T → K × X)
    (of : A → Option T) where
  abbrev reader : A → Option (K × X)
  reader row = option_map pair (of row)

  pub read_pairs : (taken : List A) (items : List T) → map of taken ≡ map Some items
      → map reader taken ≡ map Some (map pair items)
  read_pairs [] [] read = refl
  read_pairs [] (item ∷ items) read = absurd (cc)
  read_pairs (row ∷ taken) [] read = absurd (cc)
  read_pairs (row ∷ taken) (item ∷ items) read =
      let first : of row ≡ Some item = cc in
      let rest : map of taken ≡ map Some items = cc in
      λ i. option_map pair (first i) ∷ read_pairs taken items rest i

  -- a test of items is a test of keys and values
  pub items_pass : (test : A → Bool) (p : K → X → Bool)
      → ((row : A) (item : T) → of row ≡ Some item → test row ≡ p (pair item).0 (pair item).1)
      → PassesWhere (λ row. option_map pair (of row)) test p
  items_pass test p agree row k x is = go (of row) refl is
    where
      go : (r : Option T) → of row ≡ r → option_map pair r ≡ Some (k, x) → test row ≡ p k x
      go None was is = absurd (cc)
      go (Some item) was is =
          let same : pair item ≡ (k, x) = cc in
          agree row item was ∙ (λ i. p (same i).0 (same i).1)

  -- and a test for the items of one key passes the rows of that key
  pub items_pass_at : (test : A → Bool) (k : K)
      → ((row : A) (item : T) → of row ≡ Some item → test row ≡ eq_by_cmp R (pair item).0 k)
      → PassesAt R (λ row. option_map pair (of row)) test k
  items_pass_at test k at = items_pass test (λ key x. eq_by_cmp R key k) at

  -- ---- Lists

  ascending_pairs : (items : List T) → IsStrictlySortedBy R (map (λ item. (pair item).0) items)
      → AreAscending R (map pair items)
  ascending_pairs items up =
      subst (IsStrictlySortedBy R) (sym (map-map (λ e. e.0) pair items)) up

  -- the items of the rows that pass a test, in the order of their keys
  pub listed_items : {old taken : List A} (test : A → Bool) (p : K → X → Bool) (items : List T)
      → IsTable R (λ row. option_map pair (of row)) old
      → ((row : A) (item : T) → of row ≡ Some item → test row ≡ p (pair item).0 (pair item).1)
      → IsPermutation (filter test old) taken → map of taken ≡ map Some items
      → IsStrictlySortedBy R (map (λ item. (pair item).0) items)
      → map pair items
      ≡ entries (select (λ k x. only_if (p k x) x)
      (held_in {R = R} (λ row. option_map pair (of row)) old))
  listed_items {taken = taken} test p items table agree moved read up =
      rows.listed o test p (map pair items) table (items_pass test p agree) moved
      (read_pairs taken items read) (ascending_pairs items up)

  -- ---- Whether rows are a table

  -- rows that all read, as items whose keys ascend
  pub is_item_table : {old taken : List A} (items : List T) → IsPermutation old taken
      → map of taken ≡ map Some items
      → IsStrictlySortedBy R (map (λ item. (pair item).0) items)
      → IsTable R (λ row. option_map pair (of row)) old
      × (entries (held_in {R = R} (λ row. option_map pair (of row)) old) ≡ map pair items)
  is_item_table {taken = taken} items moved read up =
      rows.is_table o (map pair items) moved (read_pairs taken items read)
      (ascending_pairs items up)
