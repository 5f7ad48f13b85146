-- A block shares no address with others where it shares none with its neighbours.
use Rattle.std.proofs.Common.{◌≡◌, ℕ, ◌<◌, ◌≤◌, false, List, [], ◌∷◌, ◌++◌, refl, ap, subst, ◌∙◌, ◌⊎◌, inl, inr, arith}
use Rattle.std.specs.Prelude.{Option, Some, None, is_some}
use Rattle.std.specs.BTreeMap.Range.{IsLeBy, IsLtBy, IsRangeOf}
use Rattle.std.specs.Cmp.{IsTotalOrder}
use Rattle.std.specs.Ordering.{is_gt, is_lt, ordering_reverse}
use Rattle.std.specs.declared.cmp.Ordering.{Ordering}
use Rattle.std.specs.declared.cmp.Ordering.TheVariants.{Less, Equal, Greater}
use Rattle.std.specs.declared.ops.Bound.TheVariants.{Excluded, Unbounded}
use Rattle.std.proofs.lemmas.Bool.{cases_lt}
use Rattle.std.proofs.lemmas.Bool.Decides.{nat_tests}
use Rattle.reg_blocks.specs.Block.{SizedPrefix, Clash, block_cmp, first_address, last_address}
use Rattle.reg_blocks.proofs.BlocksAscend.{block_cmp-total}
use Rattle.reg_blocks.proofs.EndsDecideClash.{apart_before, clash_by_ends}
use Rattle.reg_opening.specs.Blocks.{Holders, IsHeld, HoldersAreApart, BeginsBefore, IsFrom, IsClearOf}
use Rattle.reg_core.proofs.KeyOrders.{block_keys}

-- ---- The order

-- of two keys the one is before the other, or the other is not after it
below_or_from : {K : Type 0} {R : K → K → Ordering} → IsTotalOrder R → (a b : K)
    → IsLtBy R a b ⊎ IsLeBy R b a
below_or_from {R = R} o a b =
    elim (R a b) as (λ r. R a b ≡ r → (r ≡ Less) ⊎ IsLeBy R b a) [
      | Less ↦ λ is. inl refl
      | Equal ↦ λ is. inr (ap is_gt (o.antisymm b a ∙ ap ordering_reverse is))
      | Greater ↦ λ is. inr (ap is_gt (o.antisymm b a ∙ ap ordering_reverse is))
    ] refl

-- a key that is not before another is from it on
from_not_below : {K : Type 0} {R : K → K → Ordering} → IsTotalOrder R → (a b : K)
    → is_lt (R a b) ≡ false → IsLeBy R b a
from_not_below {R = R} o a b =
    elim (R a b) as (λ r. R a b ≡ r → is_lt r ≡ false → IsLeBy R b a) [
      | Less ↦ λ is h. absurd (cc)
      | Equal ↦ λ is h. ap is_gt (o.antisymm b a ∙ ap ordering_reverse is)
      | Greater ↦ λ is h. ap is_gt (o.antisymm b a ∙ ap ordering_reverse is)
    ] refl

first-before : (a b : SizedPrefix) → IsLtBy block_cmp a b → first_address a ≤ first_address b
first-before a b h = grind (arith, nat_tests)

first-up_to : (a b : SizedPrefix) → IsLeBy block_cmp a b → first_address a ≤ first_address b
first-up_to a b h = grind (arith, nat_tests)

-- ---- The last block before a block

-- is the last of those that are before it
pub last_found : (holders : Holders) (block : SizedPrefix)
    (between : List (SizedPrefix × List ℕ))
    → IsRangeOf block_cmp Unbounded (Excluded block) holders between
    → (last : SizedPrefix) (account : List ℕ) (rest : List (SizedPrefix × List ℕ))
    → between ≡ rest ++ (last, account) ∷ [] → BeginsBefore holders block (Some last)
last_found holders block between range last account rest is =
    let entry = range.3 (last, account) rest is in (
      ap is_some entry.1,
      entry.0.1,
      λ other held below. from_not_below block_cmp-total last other
          (range.4 (last, account) rest is other (tt, below) held),
    )

-- ---- A block among others

-- a block is not before itself
not_below_itself : (r : Ordering) → r ≡ ordering_reverse r → r ≡ Less → ⊥
not_below_itself Less e h = cc
not_below_itself Equal e h = cc
not_below_itself Greater e h = cc

-- keys of which neither is after the other tie
tie : (r s : Ordering) → s ≡ ordering_reverse r → is_gt r ≡ false → is_gt s ≡ false → r ≡ Equal
tie Less s e h k = absurd (cc)
tie Equal s e h k = refl
tie Greater s e h k = absurd (cc)

-- of blocks that are apart, one that is before another ends before it
ends_before : (holders : Holders) → HoldersAreApart holders → (a b : SizedPrefix) → IsHeld holders a
    → IsHeld holders b → IsLtBy block_cmp a b → last_address a < first_address b
ends_before holders apart a b in_a in_b lt =
    let up = first-before a b lt in
    elim (cases_lt (last_address a) (first_address b)) [
      | inl before ↦ before
      | inr reaches ↦
          let same = apart a b in_a in_b (clash_by_ends a b (omega arith) reaches) in
          absurd (not_below_itself (block_cmp a a) (block_cmp-total.antisymm a a)
          (ap (block_cmp a) same ∙ lt))
    ]

-- a block that shares an address with another does not end before it
reaches : (a b : SizedPrefix) → Clash a b → first_address b ≤ last_address a
reaches a b clash = elim (cases_lt (last_address a) (first_address b)) [
  | inl before ↦ absurd (apart_before a b before clash)
  | inr up_to ↦ up_to
]

module _ (holders : Holders) (block : SizedPrefix) where
  -- one before the block: it is the last of these, or ends before that begins
  apart_below : HoldersAreApart holders → (last : Option SizedPrefix) → BeginsBefore holders block last
      → IsClearOf last block → (other : SizedPrefix) → IsHeld holders other
      → IsLtBy block_cmp other block → ¬ Clash block other
  apart_below apart None before beside other held lt clash = before other held lt
  apart_below apart (Some last) before beside other held lt clash =
      elim (below_or_from block_cmp-total other last) [
        | inl less ↦
            let end = ends_before holders apart other last held before.0 less in
            let begin = first-before last block before.1 in
            apart_before other block (omega arith) (clash.0, clash.2, clash.1)
        | inr from ↦
            let same = block_keys.exact other last (tie (block_cmp other last)
            (block_cmp last other) (block_cmp-total.antisymm last other)
            (before.2 other held lt) from) in
            beside (subst (Clash block) same clash)
      ]

  -- one from the block on: the first of these begins no later, and is reached as well
  apart_from : (first : Option SizedPrefix) → IsFrom holders block first → IsClearOf first block
      → (other : SizedPrefix) → IsHeld holders other → IsLeBy block_cmp block other
      → ¬ Clash block other
  apart_from None from beside other held le clash = from other held le
  apart_from (Some first) from beside other held le clash =
      let begin = first-up_to block first from.1 in
      let then = first-up_to first other (from.2 other held le) in
      let end = reaches block other clash in
      beside (clash_by_ends block first (omega arith) (omega arith))

  pub apart_by_neighbours : HoldersAreApart holders → (last first : Option SizedPrefix)
      → BeginsBefore holders block last → IsFrom holders block first → IsClearOf last block
      → IsClearOf first block → (other : SizedPrefix) → IsHeld holders other → ¬ Clash block other
  apart_by_neighbours apart last first before from beside_last beside_first other held clash =
      elim (below_or_from block_cmp-total other block) [
        | inl lt ↦ apart_below apart last before beside_last other held lt clash
        | inr le ↦ apart_from first from beside_first other held le clash
      ]

  -- a block that is apart from all is so from its neighbours
  pub beside_last : (last : Option SizedPrefix) → BeginsBefore holders block last
      → ((other : SizedPrefix) → IsHeld holders other → ¬ Clash block other)
      → IsClearOf last block
  beside_last None before apart = tt
  beside_last (Some last) before apart = apart last before.0

  pub beside_first : (first : Option SizedPrefix) → IsFrom holders block first
      → ((other : SizedPrefix) → IsHeld holders other → ¬ Clash block other)
      → IsClearOf first block
  beside_first None from apart = tt
  beside_first (Some first) from apart = apart first from.0
