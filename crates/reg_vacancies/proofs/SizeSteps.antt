-- What the steps over the runs of each size leave of the free blocks.
use Rattle.std.proofs.Common.{◌≡◌, ℕ, ◌+◌, ◌*◌, ◌/◌, ◌<◌, ◌≤◌, Option, Some, None, sym, subst, ap, inl, inr, arith}
use Rattle.std.specs.Prelude.{◌↔◌}
use Rattle.std.specs.BTreeMap.{IsEmpty}
use Rattle.std.specs.Map.{lookup}
use Rattle.std.specs.Ordering.{nat_cmp}
use Rattle.std.specs.BTreeMap.{is_at}
use Rattle.std.proofs.lemmas.Bool.{cases_lt}
use Rattle.reg_maps.specs.Spans.{Spans, Lies}
use Rattle.reg_blocks.specs.declared.size.Size.{Size}
use Rattle.reg_blocks.specs.declared.size.Size.TheVariants.{MaL, MaM, MaS}
use Rattle.reg_blocks.specs.Size.{address_count, blocks_in_prefix}
use Rattle.reg_blocks.specs.Block.{SizedPrefix, Clash, first_address, last_address, leading_24}
use Rattle.reg_blocks.proofs.EndsDecideClash.{sized, of_every, apart_after, apart_before, candidate-leading, clash_by_ends, first-up}
use Rattle.reg_vacancies.specs.Sizes.{FreeOf, IsLeastPlace, runs_of}
use Rattle.reg_vacancies.specs.PoolPlaces.{IsDueOf}
use Rattle.reg_vacancies.specs.BlockSpans.{IsInside, IsOutside}

-- ---- a block is taken away

before_by : (size : Size) (n x : ℕ) → n < x / address_count size → last_address (sized size n) < x
before_by MaL n x h = omega arith
before_by MaM n x h = omega arith
before_by MaS n x h = omega arith

after_by : (size : Size) (n x : ℕ) → x / address_count size < n → x < first_address (sized size n)
after_by MaL n x h = omega arith
after_by MaM n x h = omega arith
after_by MaS n x h = omega arith

up_to_by : (size : Size) (n x : ℕ) → n ≤ x / address_count size → first_address (sized size n) ≤ x
up_to_by MaL n x h = omega arith
up_to_by MaM n x h = omega arith
up_to_by MaS n x h = omega arith

from_by : (size : Size) (n x : ℕ) → x / address_count size ≤ n → x ≤ last_address (sized size n)
from_by MaL n x h = omega arith
from_by MaM n x h = omega arith
from_by MaS n x h = omega arith

module _ (size : Size) (block : SizedPrefix) (n : ℕ) where
  abbrev IsBeside : Type 0
  IsBeside =
      IsOutside (first_address block / address_count size)
      (last_address block / address_count size) n

  apart_beside : IsBeside → ¬ Clash (sized size n) block
  apart_beside (inl before) =
      apart_before (sized size n) block (before_by size n (first_address block) before)
  apart_beside (inr after) =
      apart_after (sized size n) block (after_by size n (last_address block) after)

  beside_apart : ¬ Clash (sized size n) block → IsBeside
  beside_apart apart = elim (cases_lt n (first_address block / address_count size)) [
    | inl before ↦ inl before
    | inr reaches ↦ elim (cases_lt (last_address block / address_count size) n) [
      | inl after ↦ inr after
      | inr within ↦ absurd (apart (clash_by_ends (sized size n) block
          (up_to_by size n (last_address block) within)
          (from_by size n (first_address block) reaches)))
    ]
  ]

-- the runs of the size lose the block's numbers, so those of the blocks that clash with it
pub gone_from : (size : Size) (block : SizedPrefix) (old new : Spans) (first last : ℕ)
    → first ≡ first_address block → last ≡ last_address block
    → ((n : ℕ) → Lies new n
    ↔ (Lies old n × IsOutside (first / address_count size) (last / address_count size) n))
    → (n : ℕ) → Lies new n ↔ (Lies old n × ¬ Clash (sized size n) block)
gone_from size block old new first last e f gone n =
    let gone_n : Lies new n
    ↔ (Lies old n
    × IsOutside (first_address block / address_count size)
    (last_address block / address_count size) n) =
    subst (λ (y : ℕ). Lies new n
    ↔ (Lies old n
    × IsOutside (first_address block / address_count size) (y / address_count size) n)) f
    (subst (λ (x : ℕ). Lies new n
    ↔ (Lies old n × IsOutside (x / address_count size) (last / address_count size) n)) e
    (gone n)) in (
      (λ l. let both = gone_n.0 l in (both.0, apart_beside size block n both.1)),
      (λ both. gone_n.1 (both.0, beside_apart size block n both.1)),
    )

module _ (large medium small large' medium' small' : Spans) (block : SizedPrefix) where
  gone_of : ((n : ℕ) → Lies large' n ↔ (Lies large n × ¬ Clash (sized MaL n) block))
      → ((n : ℕ) → Lies medium' n ↔ (Lies medium n × ¬ Clash (sized MaM n) block))
      → ((n : ℕ) → Lies small' n ↔ (Lies small n × ¬ Clash (sized MaS n) block))
      → (size : Size) (n : ℕ) → FreeOf large' medium' small' (sized size n)
      ↔ (FreeOf large medium small (sized size n) × ¬ Clash (sized size n) block)
  gone_of l m s MaL n = l n
  gone_of l m s MaM n = m n
  gone_of l m s MaS n = s n

  pub gone_all : ((n : ℕ) → Lies large' n ↔ (Lies large n × ¬ Clash (sized MaL n) block))
      → ((n : ℕ) → Lies medium' n ↔ (Lies medium n × ¬ Clash (sized MaM n) block))
      → ((n : ℕ) → Lies small' n ↔ (Lies small n × ¬ Clash (sized MaS n) block))
      → (other : SizedPrefix) → FreeOf large' medium' small' other
      ↔ (FreeOf large medium small other × ¬ Clash other block)
  gone_all l m s other = gone_of l m s other.size other.prefix

-- ---- a prefix is added

-- none of the numbers of its blocks is in the runs
pub none_in : (size : Size) (large medium small : Spans) (prefix lo hi : ℕ)
    → ((block : SizedPrefix) → FreeOf large medium small block → ¬ (leading_24 block ≡ prefix))
    → prefix * blocks_in_prefix size ≤ lo
    → hi < prefix * blocks_in_prefix size + blocks_in_prefix size
    → (n : ℕ) → IsInside lo hi n → ¬ Lies (runs_of large medium small size) n
none_in size large medium small prefix lo hi absent low high n inside lies =
    let up = inside.0 in
    let down = inside.1 in
    absent (sized size n) lies (candidate-leading size prefix n (omega arith) (omega arith))

-- ---- the block due

-- of the block of the size with the least prefix, the first address is the least
pub least_is_due : (large medium small : Spans) (size : Size) (o : Option SizedPrefix)
    (spans : Spans) → spans ≡ runs_of large medium small size → IsLeastPlace spans size o
    → IsDueOf (FreeOf large medium small) size o
least_is_due large medium small size None spans is none =
    of_every (λ block. ¬ FreeOf large medium small block) size
    (λ n lies. none n (subst (λ (runs : Spans). Lies runs n) (sym is) lies))
least_is_due large medium small size (Some due) spans is (e, there, least) = (
  of_every (λ block. Lies spans block.prefix → FreeOf large medium small block) size
      (λ n lies. subst (λ (runs : Spans). Lies runs n) is lies) due e there,
  e,
  of_every
      (λ first. ((n : ℕ) → Lies spans n → first.prefix ≤ n)
      → (block : SizedPrefix) → block.size ≡ size → FreeOf large medium small block
      → first_address first ≤ first_address block) size
      (λ k below. of_every
      (λ block. FreeOf large medium small block
      → first_address (sized size k) ≤ first_address block) size
      (λ n lies. first-up size k n
      (below n (subst (λ (runs : Spans). Lies runs n) (sym is) lies)))) due e least,
)

-- ---- no block

lies_nowhere : (spans : Spans) → IsEmpty spans → (n : ℕ) → ¬ Lies spans n
lies_nowhere spans empty n l =
    let none = ap (lookup (is_at (nat_cmp l.first))) empty in
    let run = l.run in
    absurd (cc)

pub none_free : (large medium small : Spans) → IsEmpty large → IsEmpty medium → IsEmpty small
    → (size : Size) (n : ℕ) → ¬ FreeOf large medium small (sized size n)
none_free large medium small l m s MaL n = lies_nowhere large l n
none_free large medium small l m s MaM n = lies_nowhere medium m n
none_free large medium small l m s MaS n = lies_nowhere small s n
