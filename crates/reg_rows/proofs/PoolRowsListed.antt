-- The prefixes of a pool in order: a list that ascends is known by what it contains.
use Rattle.std.proofs.Common.{◌≡◌, ℕ, List, [], ◌∷◌, ◌++◌, true, refl, sym, ap, subst, ◌∙◌}
use Rattle.std.proofs.Common.{inl, inr, ◌↔◌}
use Rattle.std.specs.Prelude.{Contains, filter_map}
use Rattle.std.specs.Cmp.{eq_by_cmp_equiv}
use Rattle.std.specs.FinMap.{FinMap, entries}
use Rattle.std.specs.List.{list_any}
use Rattle.std.specs.List.Sorted.{IsStrictlyIncreasing, IsStrictlySortedBy}
use Rattle.std.specs.Ordering.{eq_by_cmp, nat_cmp}
use Rattle.std.specs.declared.cmp.Ordering.{Ordering}
use Rattle.std.proofs.lemmas.List.{map-id}
use Rattle.std.proofs.lemmas.List.Elements.{Contains-append_left, Contains-push, Contains-push_cases}
use Rattle.std.proofs.lemmas.Map.Keys.{sorted_from_strictly_increasing}
use Rattle.std.proofs.lemmas.Map.Lookups.{btree_set_from_contains}
use Rattle.std.proofs.lemmas.Map.Views.{Contains-from_any, list_any-from_Contains}
use Rattle.reg_maps.specs.Maps.{keyed, only_if, select}
use Rattle.reg_maps.proofs.MapLaws.{IsKeyOrder, entries-select, number_keys, tied}
use Rattle.reg_blocks.specs.Pool.{AddsPrefix}
use Rattle.reg_statements.specs.Loading.{IsAscending}
use Rattle.reg_statements.proofs.Neighbours.{strict}
use Rattle.reg_rows.proofs.Found.{same_truth}

-- ---- Lists that rise

has_each : (xs ys : List ℕ) → ((q : ℕ) → Contains xs q → Contains ys q) → (q : ℕ)
    → list_any (eq_by_cmp nat_cmp q) xs ≡ true → list_any (eq_by_cmp nat_cmp q) ys ≡ true
has_each xs ys there q t =
    list_any-from_Contains (eq_by_cmp_equiv number_keys.total) q ys
    (there q (Contains-from_any (tied number_keys) q xs t))

pub same_prefixes : (pool prefixes : List ℕ) → IsStrictlyIncreasing pool
    → IsAscending nat_cmp prefixes → ((q : ℕ) → Contains pool q ↔ Contains prefixes q)
    → pool ≡ prefixes
same_prefixes pool prefixes up ascend same =
    btree_set_from_contains number_keys.total (record { keys = pool }) (record { keys = prefixes })
    (sorted_from_strictly_increasing pool up)
    (subst (IsStrictlySortedBy nat_cmp) (map-id prefixes)
    (strict number_keys (λ x. x) prefixes ascend)) (λ q.
    same_truth _ _ (has_each pool prefixes (λ q. (same q).0) q)
    (has_each prefixes pool (λ q. (same q).1) q)) number_keys.exact

-- ---- A prefix more

pub one_more : (old new before : List ℕ) (prefix : ℕ) → AddsPrefix old new prefix
    → ((q : ℕ) → Contains old q ↔ Contains before q)
    → (q : ℕ) → Contains new q ↔ Contains (before ++ prefix ∷ []) q
one_more old new before prefix adds same q = (
  (λ h. elim ((adds q).0 h) [
    | inl here ↦ subst (λ p. Contains (before ++ prefix ∷ []) p) (sym here)
        (Contains-push before prefix)
    | inr was ↦ Contains-append_left before (prefix ∷ []) q ((same q).0 was)
  ]),
  (λ h. (adds q).1 (elim (Contains-push_cases before prefix q h) [
    | inl was ↦ inr ((same q).1 was)
    | inr here ↦ inl (sym here)
  ])),
)

-- a prefix that is there adds nothing
pub there_before : (old new : List ℕ) (prefix : ℕ) → Contains old prefix → new ≡ old
    → AddsPrefix old new prefix
there_before old new prefix there same q = (
  (λ h. inr (subst (λ (xs : List ℕ). Contains xs q) same h)),
  (λ h. subst (λ (xs : List ℕ). Contains xs q) (sym same) (elim h [
    | inl here ↦ subst (λ p. Contains old p) (sym here) there
    | inr was ↦ was
  ])),
)

-- ---- The keys of a set

every : {K X : Type 0} (es : List (K × X)) → filter_map (λ e. keyed e.0 (only_if true e.1)) es ≡ es
every [] = refl
every (e ∷ es) = ap (λ more. e ∷ more) (every es)

-- the entries that pass where each passes
pub entries_all : {K X : Type 0} {R : K → K → Ordering} (o : IsKeyOrder R) (m : FinMap R X)
    → entries (select (λ k x. only_if true x) m) ≡ entries m
entries_all o m = entries-select o (λ k x. only_if true x) m ∙ every (entries m)
