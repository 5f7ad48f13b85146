-- The keys of finite maps as lists.
use Rattle.std.proofs.Common.{◌≡◌, List, [], refl, sym, ap, ◌∙◌}
use Rattle.std.specs.Prelude.{Option, Some, None, IsSome, is_some, Contains}
use Rattle.std.specs.declared.cmp.Ordering.{Ordering}
use Rattle.std.specs.Ordering.{eq_by_cmp}
use Rattle.std.specs.List.{list_any}
use Rattle.std.specs.List.Sorted.{IsStrictlySortedBy}
use Rattle.std.specs.FinMap.{FinMap, empty, get, get-empty, keys, contains_key, contains_key-keys}
use Rattle.std.proofs.lemmas.Map.Lookups.{btree_set_from_contains}
use Rattle.reg_maps.proofs.MapLaws.{IsKeyOrder, ascending-keys, Contains-keys}

module _ {K X : Type 0} {R : K → K → Ordering} (o : IsKeyOrder R) where
  -- the keys of a map are the ascending list that has the same members
  pub keys-are : (m : FinMap R X) (ks : List K) → IsStrictlySortedBy R ks
      → ((q : K) → contains_key m q ≡ list_any (eq_by_cmp R q) ks) → keys m ≡ ks
  keys-are m ks up same =
      btree_set_from_contains o.total (record { keys = keys m }) (record { keys = ks })
      (ascending-keys m) up (λ q. sym (contains_key-keys m q) ∙ same q) o.exact

  -- two maps that have the same keys have the same list of keys
  pub keys-same : {Y : Type 0} (m : FinMap R X) (n : FinMap R Y)
      → ((q : K) → contains_key m q ≡ contains_key n q) → keys m ≡ keys n
  keys-same m n same =
      keys-are m (keys n) (ascending-keys n) (λ q. same q ∙ contains_key-keys n q)

  -- what has a row is among the keys
  pub contains_at : (m : FinMap R X) (q : K) → IsSome (get m q) → Contains (keys m) q
  contains_at m q there = from (get m q) refl there
    where
      from : (row : Option X) → get m q ≡ row → IsSome row → Contains (keys m) q
      from None is there = absurd (cc)
      from (Some x) is there = Contains-keys o m q x is

-- the empty map has no keys
pub keys-empty : {K : Type 0} (X : Type 0) {R : K → K → Ordering} → IsKeyOrder R
    → keys (empty {K = K} {X = X} {R = R}) ≡ []
unfolding IsStrictlySortedBy
keys-empty X {R} o = keys-are o (empty {X = X} {R = R}) [] tt (λ q. ap is_some (get-empty R q))
