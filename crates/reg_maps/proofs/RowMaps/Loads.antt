-- What a table holds, told by the rows that were loaded from it.
use Rattle.std.proofs.Common.{◌≡◌, Bool, true, false, cond, List, [], ◌∷◌, map}
use Rattle.std.proofs.Common.{filter, refl, sym, ap, subst, ◌∙◌}
use Rattle.std.proofs.Common.{Option, Some, None, IsSome, IsPermutation}
use Rattle.std.proofs.Common.{option_and_then, option_to_list}
use Rattle.std.specs.List.{AllByRecursion}
use Rattle.std.specs.Map.{keys_of}
use Rattle.std.specs.declared.cmp.Ordering.{Ordering}
use Rattle.std.specs.Ordering.{eq_by_cmp}
use Rattle.std.specs.Cmp.{eq_by_cmp_equiv}
use Rattle.std.specs.FinMap.{FinMap, get, entries, entries_sorted, find, from_entries}
use Rattle.std.specs.FinMap.{get-entries, get-from_entries}
use Rattle.std.proofs.lemmas.List.Sorted.{IsPermutation-sym}
use Rattle.std.proofs.lemmas.Map.Keys.{IsDistinct-head}
use Rattle.reg_maps.specs.Maps.{only_if, keyed, select}
use Rattle.reg_maps.specs.RowMaps.{held_in, AreApart, AreAscending, IsTable, PassesAt, PassesWhere}
use Rattle.reg_maps.proofs.MapLaws.{IsKeyOrder, tied, get-select, entries-from_ascending}
use Rattle.reg_maps.proofs.RowMaps.Lists.{filter_map-loaded, reads-loaded}
use Rattle.reg_maps.proofs.RowMaps.Tables.{same_rows, chosen}
use Rattle.reg_maps.proofs.Ascending.{ascending_from_is_sorted, apart_from_ascending}

module _ {K X : Type 0} {R : K → K → Ordering} (o : IsKeyOrder R) where
  passed : (b : Bool) (r : Option X) (x : X) → Some x ≡ option_and_then (λ x. only_if b x) r
      → (b ≡ true) × (r ≡ Some x)
  passed true None x is = absurd (cc)
  passed true (Some y) x is = (refl, sym is)
  passed false None x is = absurd (cc)
  passed false (Some y) x is = absurd (cc)

  found_first : (e : K × X) (es : List (K × X)) → find R e.0 (e ∷ es) ≡ Some e.1
  found_first e es =
      ap (λ b. cond b (Some e.1) (find R e.0 es)) ((eq_by_cmp_equiv o.total).refl e.0)

  -- entries that are those of one key are its value, or none
  one_key : (m : FinMap R X) (k : K) (es : List (K × X)) → AreApart R es
      → ((q : K) → find R q es ≡ option_and_then (λ x. only_if (eq_by_cmp R q k) x) (get m q))
      → es ≡ option_to_list (keyed k (get m k))
  one_key m k [] apart is =
      let none : get m k ≡ None =
      gone (eq_by_cmp R k k) (get m k) ((eq_by_cmp_equiv o.total).refl k) (is k) in
      ap (λ r. option_to_list (keyed k r)) (sym none)
    where
      gone : (b : Bool) (r : Option X) → b ≡ true
          → None ≡ option_and_then (λ x. only_if b x) r → r ≡ None
      gone b None t none = refl
      gone true (Some x) t none = absurd (cc)
      gone false (Some x) t none = absurd (cc)
  one_key m k (e ∷ []) apart is =
      let here = passed (eq_by_cmp R e.0 k) (get m e.0) e.1 (sym (found_first e []) ∙ is e.0) in
      let same = tied o e.0 k here.0 in
      let value : get m k ≡ Some e.1 = ap (get m) (sym same) ∙ here.1 in
      ap (λ key. (key, e.1) ∷ []) same ∙ ap (λ r. option_to_list (keyed k r)) (sym value)
  one_key m k (e ∷ f ∷ es) apart is =
      let differ = (IsDistinct-head (eq_by_cmp R) e.0 (keys_of (f ∷ es)) apart).0 in
      let first = passed (eq_by_cmp R e.0 k) (get m e.0) e.1
      (sym (found_first e (f ∷ es)) ∙ is e.0) in
      let second = passed (eq_by_cmp R f.0 k) (get m f.0) f.1
      (sym (found_first f es) ∙ sym (ap (λ b. cond b (Some e.1) (find R f.0 (f ∷ es)))
      ((eq_by_cmp_equiv o.total).symm f.0 e.0 ∙ differ)) ∙ is f.0) in
      let tie : eq_by_cmp R e.0 f.0 ≡ true =
      ap (λ key. eq_by_cmp R e.0 key) (tied o f.0 k second.0) ∙ first.0 in
      absurd (cc)

  -- those that are chosen of one key are its value, or none
  pub entries_at : (m : FinMap R X) (k : K)
      → entries (select (λ key x. only_if (eq_by_cmp R key k) x) m)
      ≡ option_to_list (keyed k (get m k))
  entries_at m k =
      let own = λ (key : K) (x : X). only_if (eq_by_cmp R key k) x in
      let es = entries (select own m) in
      one_key m k es
      (apart_from_ascending R es (ascending_from_is_sorted R es (entries_sorted (select own m))))
      (λ q. sym (get-entries (select own m) q) ∙ get-select o own m q)

module _ {A K X : Type 0} {R : K → K → Ordering} (o : IsKeyOrder R) {of : A → Option (K × X)} where
  -- a whole table that was loaded, in any order
  pub loaded : {old rows : List A} (pairs : List (K × X)) → IsTable R of old
      → IsPermutation old rows → map of rows ≡ map Some pairs
      → AreApart R pairs × (held_in {R = R} of old ≡ from_entries pairs)
  loaded {old} {rows} pairs table moved read =
      let after = same_rows o moved table in
      let es = filter_map-loaded of rows pairs read in
      (subst (AreApart R) es after.0.distinct, sym after.1 ∙ ap from_entries es)

  -- the rows that pass a test of the key and the value, in any order
  pub chosen_loaded : {old rows : List A} (test : A → Bool) (p : K → X → Bool)
      (pairs : List (K × X)) → IsTable R of old → PassesWhere of test p
      → IsPermutation (filter test old) rows → map of rows ≡ map Some pairs
      → AreApart R pairs
      × (select (λ k x. only_if (p k x) x) (held_in {R = R} of old) ≡ from_entries pairs)
  chosen_loaded {old} test p pairs table agree moved read =
      let kept = chosen o test p table agree in
      let all = loaded pairs kept.0 moved read in
      (all.0, sym kept.1 ∙ all.1)

  -- the rows of one key: its value, or none
  pub found_pairs : {old rows : List A} (test : A → Bool) (k : K) (pairs : List (K × X))
      → IsTable R of old → PassesAt R of test k
      → IsPermutation (filter test old) rows → map of rows ≡ map Some pairs
      → pairs ≡ option_to_list (keyed k (get (held_in {R = R} of old) k))
  found_pairs {old} test k pairs table at moved read =
      let all = chosen_loaded test (λ key x. eq_by_cmp R key k) pairs table at moved read in
      one_key o (held_in of old) k pairs all.0 (λ q.
      sym (get-from_entries o.total pairs q) ∙ ap (λ m. get m q) (sym all.1)
      ∙ get-select o (λ key x. only_if (eq_by_cmp R key k) x) (held_in of old) q)

  -- the rows that pass a test, in the order of their keys
  pub listed : {old rows : List A} (test : A → Bool) (p : K → X → Bool) (pairs : List (K × X))
      → IsTable R of old → PassesWhere of test p
      → IsPermutation (filter test old) rows → map of rows ≡ map Some pairs
      → AreAscending R pairs
      → pairs ≡ entries (select (λ k x. only_if (p k x) x) (held_in {R = R} of old))
  listed test p pairs table agree moved read up =
      let all = chosen_loaded test p pairs table agree moved read in
      sym (ap entries all.1 ∙ entries-from_ascending o pairs up)

  -- ---- Whether rows are a table

  -- rows that all read, with keys that differ
  pub is_table_apart : {old rows : List A} (pairs : List (K × X)) → IsPermutation old rows
      → map of rows ≡ map Some pairs → AreApart R pairs
      → IsTable R of old × (held_in {R = R} of old ≡ from_entries pairs)
  is_table_apart {old} {rows} pairs moved read apart =
      let es = filter_map-loaded of rows pairs read in
      let table : IsTable R of rows = record {
        reads = reads-loaded of rows pairs read;
        distinct = subst (AreApart R) (sym es) apart;
      } in
      let back = same_rows o (IsPermutation-sym old rows moved) table in
      (back.0, back.1 ∙ ap from_entries es)

  -- and with keys that ascend
  pub is_table : {old rows : List A} (pairs : List (K × X)) → IsPermutation old rows
      → map of rows ≡ map Some pairs → AreAscending R pairs
      → IsTable R of old × (entries (held_in {R = R} of old) ≡ pairs)
  is_table pairs moved read up =
      let all = is_table_apart pairs moved read (apart_from_ascending R pairs up) in
      (all.0, ap entries all.1 ∙ entries-from_ascending o pairs up)

  -- rows of which one does not read are no table
  pub unread : {old rows : List A} → IsPermutation old rows
      → ¬ AllByRecursion (λ row. IsSome (of row)) rows → ¬ IsTable R of old
  unread moved none table = none (same_rows o moved table).0.reads
