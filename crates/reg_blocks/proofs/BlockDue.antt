-- The block due of a pool, from what the sweeps over its prefixes gave.
use Rattle.std.proofs.Common.{◌≡◌, ℕ, zero, ◌+◌, ◌*◌, ◌/◌, ◌^◌, ◌<◌, ◌≤◌, inl, inr, true, List, [], ◌∷◌, length, get_or, refl, sym, ap, ◌∙◌, subst, arith}
use Rattle.std.specs.Prelude.{All, Option, Some, IfSome, IsNone, is_some, ◌↔◌, IsTrue}
use Rattle.std.specs.List.Sorted.{IsStrictlyIncreasing}
use Rattle.std.proofs.lemmas.Bool.{cases_lt}
use Rattle.std.proofs.lemmas.List.{get_or_default}
use Rattle.reg_blocks.specs.declared.size.Size.{Size}
use Rattle.reg_blocks.specs.declared.size.Size.TheVariants.{MaL}
use Rattle.reg_blocks.specs.Size.{address_count, blocks_in_prefix}
use Rattle.reg_blocks.specs.Pool.{is_pool_prefix}
use Rattle.reg_blocks.specs.Block.{SizedPrefix, first_address, leading_24, make_block}
use Rattle.reg_blocks.specs.Due.{IsFree, IsDue, NoneIsFree}
use Rattle.reg_blocks.specs.Sweep.{EndBefore, IsFull}
use Rattle.reg_blocks.proofs.InsertedPrefixes.{ascends_far}
use Rattle.reg_blocks.proofs.EndsDecideClash.{sized}
use Rattle.reg_blocks.proofs.SweptPrefix.{only_prefix}

-- no block is free in the prefixes so far, and the passed blocks end before those that follow
pub record IsLooking (pool : List ℕ) (given : List SizedPrefix) (size : Size) (passed index : ℕ) :
    Type 0 where
  pub within : passed ≤ length given
  pub before : (j : ℕ) → index ≤ j → j < length pool
      → EndBefore given passed (get_or pool j 0 * 2 ^ 24)
  pub none : (j : ℕ) → j < index → j < length pool → NoneIsFree (get_or pool j 0 ∷ []) given size

pub looking-next : (pool : List ℕ) (given : List SizedPrefix) (size : Size) (passed index end : ℕ)
    → IsStrictlyIncreasing pool → index < length pool → IsLooking pool given size passed index
    → IsFull (get_or pool index 0) given size end → IsLooking pool given size end (index + 1)
looking-next pool given size passed index end up here looking full =
    record {
      within = full.within;
      before = λ j le lt m d lo h.
          let ends = full.passed m d lo h in
          let rises = ascends_far pool up index j (omega arith) lt in
          omega arith;
      none = λ j h lt.
          elim (cases_lt j index) [
            | inl before ↦ looking.none j before lt
            | inr after ↦ let e : index ≡ j = omega arith in
                subst (λ (i : ℕ). NoneIsFree (get_or pool i 0 ∷ []) given size) e full.none
          ];
    }

-- a block lies in the addresses that its leading bits begin
pub in_leading : (size : Size) (prefix : ℕ)
    → ((prefix / blocks_in_prefix size) * 2 ^ 24 ≤ prefix * address_count size)
    × (prefix * address_count size < (prefix / blocks_in_prefix size + 1) * 2 ^ 24)
in_leading MaL prefix = (omega arith, omega arith)
in_leading size prefix = (omega arith, omega arith)

-- what is free in a pool is free in the pool of its one prefix
free_alone : (pool : List ℕ) (given : List SizedPrefix) (block : SizedPrefix) (j : ℕ)
    → get_or pool j 0 ≡ leading_24 block → IsFree pool given block
    → IsFree (get_or pool j 0 ∷ []) given block
free_alone pool given block j e free =
    record {
      in_pool = (zero, omega arith, e);
      apart = free.apart;
    }

module _ (pool : List ℕ) (given : List SizedPrefix) (size : Size) where
  pub looking-none : (passed index : ℕ) → length pool ≤ index
      → IsLooking pool given size passed index → NoneIsFree pool given size
  looking-none passed index end looking block e free =
      let j = free.in_pool.0 in
      let lt = free.in_pool.1 in
      let same : get_or pool j 0 ≡ leading_24 block =
      get_or_default pool j 0 (leading_24 block) lt ∙ free.in_pool.2 in
      looking.none j (omega arith) lt block e (free_alone pool given block j same free)

  module _ (passed index : ℕ) (up : IsStrictlyIncreasing pool) (here : index < length pool)
      (looking : IsLooking pool given size passed index) (block : SizedPrefix)
      (due : IsDue (get_or pool index 0 ∷ []) given size block) where
    leads : leading_24 block ≡ get_or pool index 0
    leads = only_prefix (get_or pool index 0) (leading_24 block) due.free.in_pool

    least : (other : SizedPrefix) → other.size ≡ size → IsFree pool given other
        → first_address block ≤ first_address other
    least other e free =
        let j = free.in_pool.0 in
        let lt = free.in_pool.1 in
        let same : get_or pool j 0 ≡ leading_24 other =
        get_or_default pool j 0 (leading_24 other) lt ∙ free.in_pool.2 in
        let alone = free_alone pool given other j same free in
        elim (cases_lt j index) [
          | inl before ↦ absurd (looking.none j before lt other e alone)
          | inr after ↦ elim (cases_lt index j) [
            | inl later ↦
                let rises = ascends_far pool up index j later lt in
                let own = in_leading block.size block.prefix in
                let others = in_leading other.size other.prefix in
                let l = leads in
                omega (arith, own.1, others.0)
            | inr not_later ↦
                let i : j ≡ index = omega arith in
                due.least other e
                (subst (λ (k : ℕ). IsFree (get_or pool k 0 ∷ []) given other) i alone)
          ]
        ]

    pub looking-due : IsDue pool given size block
    looking-due =
        record {
          free = record {
            in_pool =
                (index, here, get_or_default pool index (leading_24 block) 0 here ∙ sym leads);
            apart = due.free.apart;
          };
          of_size = due.of_size;
          least = least;
        }

-- a block of a pool's prefix has a block's form
pub made : (pool : List ℕ) (size : Size) (candidate index : ℕ)
    → All (λ prefix. IsTrue (is_pool_prefix prefix)) pool → index < length pool
    → leading_24 (sized size candidate) ≡ get_or pool index 0
    → make_block size candidate ≡ Some (sized size candidate)
made pool size candidate index clear here e =
    let form : is_pool_prefix (leading_24 (sized size candidate)) ≡ true =
    subst (λ (n : ℕ). is_pool_prefix n ≡ true) (sym e) (clear index 0 here) in
    rw form refl

-- what the two clauses of the search say where it gives a block
pub due-Some : (pool : List ℕ) (given : List SizedPrefix) (size : Size) (block : SizedPrefix)
    (o : Option SizedPrefix) → o ≡ Some block → IsDue pool given size block
    → IfSome o (IsDue pool given size)
due-Some pool given size block o e due =
    subst (λ (r : Option SizedPrefix). IfSome r (IsDue pool given size)) (sym e) due

pub none-Some : (pool : List ℕ) (given : List SizedPrefix) (size : Size) (block : SizedPrefix)
    (o : Option SizedPrefix) → o ≡ Some block → IsDue pool given size block
    → IsNone o ↔ NoneIsFree pool given size
none-Some pool given size block o e due = (
  (λ none. absurd (let h = sym none ∙ ap is_some e in cc)),
  (λ none. absurd (none block due.of_size due.free)),
)
