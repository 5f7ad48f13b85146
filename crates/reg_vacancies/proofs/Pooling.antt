-- The prefixes of a pool as a set, and what free blocks have to do with it.
use Rattle.std.proofs.Common.{◌≡◌, ◌≢◌, ℕ, ◌<◌, Bool, true, false, not, List, [], ◌∷◌, refl, sym, ap, subst, ◌∙◌, ◌⊎◌, inl, inr, arith}
use Rattle.std.specs.Prelude.{Contains, IsTrue, ◌↔◌}
use Rattle.std.specs.BTreeSet.{BTreeSet, IsOrdered, Updates, contains, insert_key}
use Rattle.std.specs.BTreeMap.{is_at}
use Rattle.std.specs.Cmp.{nat_cmp_total}
use Rattle.std.specs.List.{list_any}
use Rattle.std.specs.declared.cmp.Ordering.TheVariants.{Less, Greater}
use Rattle.std.specs.Ordering.{nat_cmp}
use Rattle.std.specs.Set.{remove_key}
use Rattle.std.proofs.lemmas.Bool.{cases_eq, cases_order, or_parts}
use Rattle.std.proofs.lemmas.Bool.Decides.{nat_tests}
use Rattle.std.proofs.lemmas.Map.Keys.{IsStrictlyIncreasing-from_sorted}
use Rattle.std.proofs.lemmas.Map.Lookups.{exact_unsigned}
use Rattle.std.proofs.lemmas.Map.Views.{All-insert_key, btree_set_contains_iff}
use Rattle.reg_maps.specs.Spans.{Spans}
use Rattle.reg_blocks.specs.Block.{SizedPrefix, leading_24}
use Rattle.reg_blocks.specs.Pool.{is_pool_prefix, AddsPrefix, IsPool}
use Rattle.reg_vacancies.specs.Sizes.{ArePooled, FreeOf}

pub is_key : (s : BTreeSet ℕ) (k : ℕ) → IsTrue (contains nat_cmp s k) ↔ Contains s.keys k
is_key s k = btree_set_contains_iff nat_cmp_total exact_unsigned s k

-- a prefix is in the pool, or is not
pub decided : (s : BTreeSet ℕ) (k : ℕ) → Contains s.keys k ⊎ (¬ Contains s.keys k)
decided s k =
    elim (contains nat_cmp s k) as (λ b. contains nat_cmp s k ≡ b
    → Contains s.keys k ⊎ (¬ Contains s.keys k)) [
      | true ↦ λ e. inl ((is_key s k).0 e)
      | false ↦ λ e. inr (λ there. let h = (is_key s k).1 there in absurd (cc))
    ] refl

pub no_key : (s : BTreeSet ℕ) (k : ℕ) → contains nat_cmp s k ≡ false → ¬ Contains s.keys k
no_key s k none there = let h = (is_key s k).1 there in absurd (cc)

apart_keys : (a b : ℕ) → a ≢ b → is_at (nat_cmp a) b ≡ false
apart_keys a b ne = grind (arith, nat_tests)

-- ---- a prefix is added to the set

module _ (old new : BTreeSet ℕ) (k : ℕ) (put : Updates nat_cmp old new k true) where
  has_after : (q : ℕ) → (q ≡ k) ⊎ IsTrue (contains nat_cmp old q) → IsTrue (contains nat_cmp new q)
  has_after q (inl e) = subst (λ (n : ℕ). contains nat_cmp new n ≡ true) (sym e) put.1
  has_after q (inr there) = elim (cases_eq q k) [
    | inl e ↦ subst (λ (n : ℕ). contains nat_cmp new n ≡ true) (sym e) put.1
    | inr ne ↦ put.2 q (apart_keys k q (λ e. ne (sym e))) ∙ there
  ]

  had_before : (q : ℕ) → IsTrue (contains nat_cmp new q)
      → (q ≡ k) ⊎ IsTrue (contains nat_cmp old q)
  had_before q there = elim (cases_eq q k) [
    | inl e ↦ inl e
    | inr ne ↦ inr (sym (put.2 q (apart_keys k q (λ e. ne (sym e)))) ∙ there)
  ]

  to_keys : (q : ℕ) → (q ≡ k) ⊎ IsTrue (contains nat_cmp old q) → (q ≡ k) ⊎ Contains old.keys q
  to_keys q (inl e) = inl e
  to_keys q (inr there) = inr ((is_key old q).0 there)

  from_keys : (q : ℕ) → (q ≡ k) ⊎ Contains old.keys q → (q ≡ k) ⊎ IsTrue (contains nat_cmp old q)
  from_keys q (inl e) = inl e
  from_keys q (inr there) = inr ((is_key old q).1 there)

  pub adds_key : AddsPrefix old.keys new.keys k
  adds_key q = (
    (λ there. to_keys q (had_before q ((is_key new q).1 there))),
    (λ there. (is_key new q).0 (has_after q (from_keys q there))),
  )

  module _ (large medium small large' medium' small' : Spans)
      (was : ArePooled old large medium small) where
    now_pooled : (block : SizedPrefix)
        → (leading_24 block ≡ k) ⊎ FreeOf large medium small block
        → IsTrue (contains nat_cmp new (leading_24 block))
    now_pooled block (inl e) = has_after (leading_24 block) (inl e)
    now_pooled block (inr free) = has_after (leading_24 block) (inr (was.pooled block free))

    pub pooled_more : new.keys ≡ insert_key nat_cmp old.keys k → IsOrdered nat_cmp new
        → IsTrue (is_pool_prefix k)
        → ((block : SizedPrefix) → FreeOf large' medium' small' block
        → (leading_24 block ≡ k) ⊎ FreeOf large medium small block)
        → ArePooled new large' medium' small'
    pooled_more keys ordered form free = record {
      pool = record {
        ascending = IsStrictlyIncreasing-from_sorted new.keys ordered;
        clear = rw keys
            (All-insert_key nat_cmp k (λ prefix. IsTrue (is_pool_prefix prefix)) old.keys
            was.pool.clear form);
      };
      pooled = λ block is. now_pooled block (free block is);
    }

-- ---- the set stays

pub pooled_less : (old new : BTreeSet ℕ) (large medium small large' medium' small' : Spans)
    → new.keys ≡ old.keys
    → ((block : SizedPrefix) → FreeOf large' medium' small' block → FreeOf large medium small block)
    → ArePooled old large medium small → ArePooled new large' medium' small'
pooled_less old new large medium small large' medium' small' same free was = record {
  pool = subst (λ (keys : List ℕ). IsPool keys) (sym same) was.pool;
  pooled = λ block is.
      ap (list_any (is_at (nat_cmp (leading_24 block)))) same ∙ was.pooled block (free block is);
}

-- ---- a prefix is added and taken away again

tie_self : (k : ℕ) → is_at (nat_cmp k) k ≡ true
tie_self k = grind (arith, nat_tests)

tie_at : (k x : ℕ) → k ≡ x → is_at (nat_cmp k) x ≡ true
tie_at k x e = grind (arith, nat_tests)

is_less : (k x : ℕ) → k < x → nat_cmp k x ≡ Less
is_less k x lt = grind (arith, nat_tests)

is_greater : (k x : ℕ) → x < k → nat_cmp k x ≡ Greater
is_greater k x lt = grind (arith, nat_tests)

pub removed_inserted : (ks : List ℕ) (k : ℕ) → list_any (is_at (nat_cmp k)) ks ≡ false
    → remove_key (is_at (nat_cmp k)) (insert_key nat_cmp ks k) ≡ ks
removed_inserted [] k none = rw (tie_self k) refl
removed_inserted (x ∷ xs) k none =
    let parts = or_parts (is_at (nat_cmp k) x) (list_any (is_at (nat_cmp k)) xs) none in
    let first : is_at (nat_cmp k) x ≡ false = parts.0 in
    elim (cases_order k x) [
      | inl same ↦ let e : is_at (nat_cmp k) x ≡ true = tie_at k x same in absurd (cc)
      | inr (inl less) ↦ rw (is_less k x less) (rw (tie_self k) refl)
      | inr (inr more) ↦
          rw (is_greater k x more)
          (rw first (ap (λ rest. x ∷ rest) (removed_inserted xs k parts.1)))
    ]

-- what an insert says of a key
pub was_there : (b added : Bool) → added ≡ not b → added ≡ false → b ≡ true
was_there true added says e = refl
was_there false added says e = absurd (cc)

pub was_new : (b added : Bool) → added ≡ not b → added ≡ true → b ≡ false
was_new true added says e = absurd (cc)
was_new false added says e = refl
