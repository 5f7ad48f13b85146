-- The places that blocks leave, as one block more is given or nothing changes.
use Rattle.std.proofs.Common.{◌≡◌, ℕ, List, sym, ap, subst, ◌⊎◌, inl, inr, refl}
use Rattle.std.specs.Prelude.{All, Contains, IsSome, ◌↔◌, Result, Ok, Err, OnErr}
use Rattle.std.specs.FinMap.{FinMap, get, keys, insert}
use Rattle.std.proofs.Math.Logic.{∥∥₁_map}
use Rattle.reg_maps.proofs.KeySets.{is_inserted, still_in, each_key}
use Rattle.reg_maps.proofs.MapLaws.{has_row}
use Rattle.reg_maps.proofs.KeyLists.{contains_at}
use Rattle.reg_blocks.specs.Block.{SizedPrefix, block_cmp, leading_24}
use Rattle.reg_blocks.specs.Due.{IsFree}
use Rattle.reg_core.specs.declared.holding.Holder.{Holder}
use Rattle.reg_core.proofs.KeyOrders.{block_keys}
use Rattle.reg_vacancies.specs.PoolPlaces.{AddsBlock, FollowsGiven, IsFreeIn, pool_of}
use Rattle.reg_vacancies.specs.declared.pool_places.Places.{Places}
use Rattle.reg_vacancies.specs.Places.{AreUnchanged, places_in}
use Rattle.reg_vacancies.specs.Pool.{prefix_set}
use Rattle.reg_vacancies.specs.declared.places.FreePlaces.{FreePlaces}

-- a block that was given is one more
pub adds-inserted : (m : FinMap block_cmp Holder) (block : SizedPrefix) (h : Holder)
    → AddsBlock (keys m) (keys (insert m block h)) block
adds-inserted m block h other = (
  (λ there. each_key block_keys m block (λ q. (q ≡ block) ⊎ Contains (keys m) q) h
      (λ q was. inr (contains_at block_keys m q was)) (inl refl) other
      (has_row block_keys (insert m block h) other there)),
  (λ either. contains_at block_keys (insert m block h) other (now either)),
)
  where
    now : (other ≡ block) ⊎ Contains (keys m) other → IsSome (get (insert m block h) other)
    now (inl e) =
        subst (λ (q : SizedPrefix). IsSome (get (insert m block h) q)) (sym e)
        (is_inserted block_keys m block h)
    now (inr was) = still_in block_keys m block h other (has_row block_keys m other was)

-- places with the same pool and the same free blocks follow the same gifts
pub follows-same : (old new : Places) → pool_of new ≡ pool_of old
    → ((block : SizedPrefix) → IsFreeIn new block ↔ IsFreeIn old block)
    → (given : List SizedPrefix) → FollowsGiven old given → FollowsGiven new given
follows-same old new pool free given follows = record {
  free = λ block. (
    (λ is. subst (λ (prefixes : List ℕ). IsFree prefixes given block) (sym pool)
        ((follows.free block).0 ((free block).0 is))),
    (λ is. (free block).1 ((follows.free block).1
        (subst (λ (prefixes : List ℕ). IsFree prefixes given block) pool is))),
  );
  in_pool = subst (λ (prefixes : List ℕ). All (λ block. Contains prefixes (leading_24 block)) given)
      (sym pool) follows.in_pool;
}

-- at an error that leaves the pool and the free blocks nothing changed
pub unchanged : {T E : Type 0} (old new : FreePlaces) (result : Result T E)
    → OnErr result (pool_of new.places ≡ pool_of old.places)
    → OnErr result ((block : SizedPrefix) → IsFreeIn new.places block ↔ IsFreeIn old.places block)
    → OnErr result (AreUnchanged old new)
unfolding places_in
unchanged old new (Ok x) pool free = tt
unchanged old new (Err e) pool free = record {
  pool = ap prefix_set pool;
  left = λ blocks. (
    (λ left. ∥∥₁_map left (follows-same new.places old.places (sym pool)
        (λ block. ((free block).1, (free block).0)) (keys blocks))),
    (λ left. ∥∥₁_map left (follows-same old.places new.places pool free (keys blocks))),
  );
}
