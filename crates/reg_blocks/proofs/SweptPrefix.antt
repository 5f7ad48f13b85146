-- The sweep over one prefix: what holds while it goes on, and what it gives where it stops.
use Rattle.std.proofs.Common.{◌≡◌, ℕ, zero, suc, ◌+◌, ◌*◌, ◌/◌, ◌^◌, max, ◌<◌, ◌≤◌, inl, inr, List, [], ◌∷◌, length, get_or, refl, sym, ap, ◌∙◌, subst, arith}
use Rattle.std.specs.Prelude.{All, Contains}
use Rattle.std.specs.List.Sorted.{IsNonDecreasingBy}
use Rattle.std.proofs.lemmas.Bool.{cases_lt}
use Rattle.std.proofs.lemmas.List.{get_or_default}
use Rattle.reg_blocks.specs.declared.size.Size.{Size}
use Rattle.reg_blocks.specs.Size.{address_count, blocks_in_prefix}
use Rattle.reg_blocks.specs.Block.{SizedPrefix, Clash, first_address, last_address, leading_24}
use Rattle.reg_blocks.specs.Due.{IsFree, IsDue}
use Rattle.reg_blocks.specs.Sweep.{EndBefore, IsFull}
use Rattle.reg_blocks.proofs.EndsDecideClash.{sized, of_every, apart_before, apart_after, clash_by_ends, ends_in_prefix, last-next, last-above, first-below, below-past, first-up, candidate-low, candidate-high, candidate-leading, candidate-end}

-- the block shares no address with a given one
abbrev pub IsApart : List SizedPrefix → SizedPrefix → Type 0
IsApart given block = All (λ other. ¬ Clash block other) given

-- before the candidate nothing in the prefix is free, and the given blocks before the next one end
-- before it
pub record IsSweeping (prefix : ℕ) (given : List SizedPrefix) (size : Size) (next candidate : ℕ) :
    Type 0 where
  pub low : prefix * blocks_in_prefix size ≤ candidate
  pub high : candidate < prefix * blocks_in_prefix size + blocks_in_prefix size
  pub passed : EndBefore given next (candidate * address_count size)
  pub clashing : (k : ℕ) → prefix * blocks_in_prefix size ≤ k → k < candidate
      → ¬ IsApart given (sized size k)

-- what a pool of one prefix contains
pub only_prefix : (prefix x : ℕ) → Contains (prefix ∷ []) x → x ≡ prefix
only_prefix prefix x (zero, lt, e) = sym e
only_prefix prefix x (suc k, lt, e) = absurd (omega arith)

module _ (prefix : ℕ) (given : List SizedPrefix) (size : Size) (next candidate : ℕ)
    (s : IsSweeping prefix given size next candidate) where
  -- the candidate is free where the next given block, if there is one, begins after it
  apart : IsNonDecreasingBy first_address given
      → ((d : SizedPrefix) → next < length given
      → (candidate + 1) * address_count size ≤ first_address (get_or given next d))
      → IsApart given (sized size candidate)
  apart up after m d lt =
      elim (cases_lt m next) [
        | inl h ↦
            apart_after (sized size candidate) (get_or given m d) (s.passed m d (omega arith) h)
        | inr h ↦
            let rises = up next m d h lt in
            let begins = after d (omega arith) in
            let ends = last-next size candidate in
            apart_before (sized size candidate) (get_or given m d) (omega arith)
      ]

  -- no free block of the prefix begins before the candidate
  least : (k : ℕ) → IsFree (prefix ∷ []) given (sized size k)
      → first_address (sized size candidate) ≤ first_address (sized size k)
  least k free =
      elim (cases_lt k candidate) [
        | inl h ↦
            absurd (s.clashing k
            (candidate-low size prefix k
            (only_prefix prefix (leading_24 (sized size k)) free.in_pool)) h free.apart)
        | inr h ↦ first-up size candidate k h
      ]

  pub sweeping-free : IsNonDecreasingBy first_address given
      → ((d : SizedPrefix) → next < length given
      → (candidate + 1) * address_count size ≤ first_address (get_or given next d))
      → IsDue (prefix ∷ []) given size (sized size candidate)
  sweeping-free up after =
      record {
        free = record {
          in_pool = (zero, omega arith, sym (candidate-leading size prefix candidate s.low s.high));
          apart = apart up after;
        };
        of_size = refl;
        least = of_every
            (λ other. IsFree (prefix ∷ []) given other
            → first_address (sized size candidate) ≤ first_address other) size least;
      }

  -- the next given block does not begin after the candidate, which makes way for the first one past
  -- that block
  module _ (block : SizedPrefix) (past : ℕ) (is : block ≡ get_or given next block)
      (within : next < length given)
      (begins : first_address block < (candidate + 1) * address_count size)
      (moves : past ≡ max candidate (last_address block / address_count size + 1)) where
    -- the candidates that are passed over share an address with the block
    clashing_past : (k : ℕ) → prefix * blocks_in_prefix size ≤ k → k < past
        → ¬ IsApart given (sized size k)
    clashing_past k lo lt free =
        elim (cases_lt k candidate) [
          | inl h ↦ s.clashing k lo h free
          | inr h ↦
              let under : k < last_address block / address_count size + 1 = omega arith in
              let meets =
              clash_by_ends (sized size k) block (first-below size k (last_address block) under)
              (last-above size k candidate (first_address block) h begins) in
              free next block within (subst (λ (b : SizedPrefix). Clash (sized size k) b) is meets)
        ]

    -- each passed block ends before the address
    passed_by : (address : ℕ) → candidate * address_count size ≤ address
        → last_address block < address → EndBefore given (next + 1) address
    passed_by address up ends m d lo lt =
        elim (cases_lt m next) [
          | inl h ↦ let b = s.passed m d lo h in omega arith
          | inr h ↦
              let e : next ≡ m = omega arith in
              let same : block ≡ get_or given m d =
              is ∙ get_or_default given next block d within
              ∙ ap (λ (j : ℕ). get_or given j d) e in
              subst (λ (b : SizedPrefix). last_address b < address) same ends
        ]

    pub sweeping-next : past < prefix * blocks_in_prefix size + blocks_in_prefix size
        → IsSweeping prefix given size (next + 1) past
    sweeping-next h =
        record {
          low = let l = s.low in omega arith;
          high = h;
          passed =
              passed_by (past * address_count size) (first-up size candidate past (omega arith))
              (below-past size past (last_address block) (omega arith));
          clashing = clashing_past;
        }

    pub sweeping-full : prefix * blocks_in_prefix size + blocks_in_prefix size ≤ past
        → IsFull prefix given size (next + 1)
    sweeping-full h =
        let inside = candidate-end size prefix candidate s.high in
        let ends = ends_in_prefix block (prefix + 1) (omega arith) in
        record {
          none = of_every (λ other. ¬ IsFree (prefix ∷ []) given other) size (λ k free.
              let here = only_prefix prefix (leading_24 (sized size k)) free.in_pool in
              let hi = candidate-high size prefix k here in
              clashing_past k (candidate-low size prefix k here) (omega arith) free.apart);
          within = omega arith;
          passed =
              passed_by ((prefix + 1) * 2 ^ 24)
              (let f = first-up size candidate (candidate + 1) (omega arith) in omega arith)
              ends;
        }
