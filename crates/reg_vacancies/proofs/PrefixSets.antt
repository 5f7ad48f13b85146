-- The prefixes of a pool as a finite set.
use Rattle.std.proofs.Common.{◌≡◌, ℕ, ◌||◌, List, [], ◌∷◌, ◌++◌, map, ◌⊎◌, inl, inr, Bool, true, false}
use Rattle.std.proofs.Common.{cond, refl, sym, ap, subst, ◌∙◌}
use Rattle.std.specs.Prelude.{All, Contains, IsTrue, Option, Some, None, is_some}
use Rattle.std.specs.Bool.{Decides}
use Rattle.std.specs.BTreeSet.{BTreeSet, contains}
use Rattle.std.specs.Cmp.{nat_cmp_total, eq_by_cmp_equiv}
use Rattle.std.specs.FinMap.{keys, contains_key, get, get-from_entries, insert}
use Rattle.std.specs.FinMap.Entries.{is_some-find}
use Rattle.std.specs.List.{list_any, slice_get}
use Rattle.std.proofs.lemmas.List.Elements.{All-contains, All-nil, All-push, Contains-append_cases, Contains-append_left, Contains-push}
use Rattle.std.specs.List.Sorted.{IsStrictlyIncreasing}
use Rattle.std.specs.Map.{keys_of}
use Rattle.std.specs.Ordering.{nat_cmp, eq_by_cmp}
use Rattle.std.proofs.lemmas.Option.{get_or_from_slice_get, slice_get_within}
use Rattle.std.proofs.lemmas.Bool.Decides.{Decides-at, Decides-or, Decides-like, same_from_decides}
use Rattle.std.proofs.lemmas.Map.Keys.{sorted_from_strictly_increasing}
use Rattle.std.proofs.lemmas.Map.Lookups.{exact_unsigned}
use Rattle.std.proofs.lemmas.Map.Made.{is_member-Decides}
use Rattle.std.proofs.lemmas.Map.Views.{btree_set_contains_iff}
use Rattle.reg_maps.proofs.MapLaws.{number_keys, tied, same_at, get-at_insert}
use Rattle.reg_maps.proofs.KeyLists.{keys-are}
use Rattle.reg_blocks.specs.Pool.{is_pool_prefix, AddsPrefix}
use Rattle.reg_vacancies.specs.Pool.{prefix_set}

-- ---- The keys

-- the rows of a set, without content
abbrev rows_of : List ℕ → List (ℕ × Unit {0})
rows_of = map (λ k. (k, tt))

keys-rows_of : (ks : List ℕ) → keys_of (rows_of ks) ≡ ks
keys-rows_of [] = refl
keys-rows_of (k ∷ ks) = ap (λ xs. k ∷ xs) (keys-rows_of ks)

-- a prefix has a row where the list has it
contains-prefix_set : (ks : List ℕ) (q : ℕ)
    → contains_key (prefix_set ks) q ≡ list_any (eq_by_cmp nat_cmp q) ks
contains-prefix_set ks q =
    ap is_some (get-from_entries nat_cmp_total (rows_of ks) q)
    ∙ is_some-find nat_cmp q (rows_of ks)
    ∙ ap (list_any (eq_by_cmp nat_cmp q)) (keys-rows_of ks)

-- a pool of prefixes that ascend has them as its keys, in the same order
pub keys-prefix_set : (ks : List ℕ) → IsStrictlyIncreasing ks → keys (prefix_set ks) ≡ ks
keys-prefix_set ks up =
    keys-are number_keys (prefix_set ks) ks (sorted_from_strictly_increasing ks up)
    (contains-prefix_set ks)

-- ---- A prefix is added

-- two numbers tie where they are equal
Decides-tie : (q k : ℕ) → Decides (eq_by_cmp nat_cmp q k) (q ≡ k)
Decides-tie q k = (
  tied number_keys q k,
  λ e. ap (eq_by_cmp nat_cmp q) (sym e)
      ∙ (eq_by_cmp_equiv nat_cmp_total).refl q,
)

-- a prefix has a row where the list contains it
Decides-prefix_set : (ks : List ℕ) (q : ℕ)
    → Decides (contains_key (prefix_set ks) q) (Contains ks q)
Decides-prefix_set ks q =
    Decides-at _ _ (contains-prefix_set ks q) (is_member-Decides Decides-tie ks q)

-- so it has one where a set with these keys has it
pub found_in_set : (s : BTreeSet ℕ) (ks : List ℕ) → s.keys ≡ ks → (q : ℕ)
    → contains nat_cmp s q ≡ contains_key (prefix_set ks) q
found_in_set s ks same q =
    same_from_decides (contains nat_cmp s q) (contains_key (prefix_set ks) q)
    (subst (λ (xs : List ℕ). Decides (contains nat_cmp s q) (Contains xs q)) same
    (btree_set_contains_iff nat_cmp_total exact_unsigned s q))
    (Decides-prefix_set ks q)

-- rows without content are equal where both are there or none is
same_row : (a b : Option (Unit {0})) → is_some a ≡ is_some b → a ≡ b
same_row None None e = refl
same_row None (Some u) e = absurd (cc)
same_row (Some u) None e = absurd (cc)
same_row (Some u) (Some v) e = refl

is_some-put : (b : Bool) (x : Option (Unit {0})) → is_some (cond b (Some tt) x) ≡ (b || is_some x)
is_some-put true x = refl
is_some-put false x = refl

-- a pool that has a prefix, and else what the old one had, is the set with the prefix
pub prefix_set-add : (old new : List ℕ) (prefix : ℕ) → AddsPrefix old new prefix
    → prefix_set new ≡ insert (prefix_set old) prefix tt
prefix_set-add old new prefix adds = same_at number_keys _ _ (λ q.
    let tie = eq_by_cmp nat_cmp q prefix in
    let there = contains_key (prefix_set old) q in
    let either = Decides-or tie there (Decides-tie q prefix) (Decides-prefix_set old q) in
    same_row _ _
    (same_from_decides (contains_key (prefix_set new) q) (tie || there) (Decides-prefix_set new q)
    (Decides-like _ (adds q).1 (adds q).0 either)
    ∙ sym (is_some-put tie (get (prefix_set old) q))
    ∙ sym (ap is_some (get-at_insert number_keys (prefix_set old) prefix tt q))))

-- a prefix that the pool has changes nothing
pub prefix_set-there : (old new : List ℕ) (prefix : ℕ) → Contains old prefix → new ≡ old
    → prefix_set new ≡ insert (prefix_set old) prefix tt
prefix_set-there old new prefix there same = prefix_set-add old new prefix (λ other. (
  (λ h. inr (subst (λ (xs : List ℕ). Contains xs other) same h)),
  (λ h. subst (λ (xs : List ℕ). Contains xs other) (sym same) (already other h)),
))
  where
    already : (other : ℕ) → (other ≡ prefix) ⊎ Contains old other → Contains old other
    already other (inl e) = subst (λ (n : ℕ). Contains old n) (sym e) there
    already other (inr h) = h

-- as is one that is pushed behind the others
pub prefix_set-push : (ks : List ℕ) (prefix : ℕ)
    → prefix_set (ks ++ prefix ∷ []) ≡ insert (prefix_set ks) prefix tt
prefix_set-push ks prefix = prefix_set-add ks (ks ++ prefix ∷ []) prefix (λ other. (
  (λ h. last other (Contains-append_cases ks (prefix ∷ []) other h)),
  (λ either. there other either),
))
  where
    last : (other : ℕ) → Contains ks other ⊎ Contains (prefix ∷ []) other
        → (other ≡ prefix) ⊎ Contains ks other
    last other (inl h) = inr h
    last other (inr h) =
        inl (All-contains (λ k. k ≡ prefix) (prefix ∷ []) other
        (All-push (λ k. k ≡ prefix) [] prefix (All-nil (λ k. k ≡ prefix)) refl) h)

    there : (other : ℕ) → (other ≡ prefix) ⊎ Contains ks other
        → Contains (ks ++ prefix ∷ []) other
    there other (inl e) =
        subst (λ (n : ℕ). Contains (ks ++ prefix ∷ []) n) (sym e) (Contains-push ks prefix)
    there other (inr h) = Contains-append_left ks (prefix ∷ []) other h

-- each prefix of a pool may be in one
pub each_clear : (ks : List ℕ) (i prefix : ℕ) → All (λ k. IsTrue (is_pool_prefix k)) ks
    → slice_get ks i ≡ Some prefix → IsTrue (is_pool_prefix prefix)
each_clear ks i prefix clear at =
    subst (λ k. IsTrue (is_pool_prefix k)) (get_or_from_slice_get ks i prefix 0 at)
    (clear i 0 (slice_get_within ks i prefix at))
