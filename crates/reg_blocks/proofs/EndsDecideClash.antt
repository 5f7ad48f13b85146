-- The ends of a block, and which blocks share an address.
use Rattle.std.proofs.Common.{◌≡◌, ℕ, ◌+◌, ◌-◌, ◌*◌, ◌/◌, ◌^◌, ◌<◌, ◌≤◌, inl, inr, sym, subst, arith}
use Rattle.std.proofs.lemmas.Bool.{cases_lt}
use Rattle.reg_blocks.specs.declared.size.Size.{Size}
use Rattle.reg_blocks.specs.declared.size.Size.TheVariants.{MaL}
use Rattle.reg_blocks.specs.Size.{address_count, blocks_in_prefix}
use Rattle.reg_blocks.specs.Block.{SizedPrefix, Clash, first_address, last_address}

-- the block of this size and prefix
abbrev pub sized : Size → ℕ → SizedPrefix
sized size prefix = record { size = size; prefix = prefix }

-- what holds of each prefix of the size holds of each block of the size
pub of_every : (P : SizedPrefix → Type 0) (size : Size) → ((prefix : ℕ) → P (sized size prefix))
    → (block : SizedPrefix) → block.size ≡ size → P block
of_every P size each block e =
    subst (λ (s : Size). P (sized s block.prefix)) (sym e) (each block.prefix)

from_first : (size : Size) (prefix x : ℕ) → x / address_count size ≡ prefix
    → prefix * address_count size ≤ x
from_first MaL prefix x h = omega arith
from_first size prefix x h = omega arith

to_last : (size : Size) (prefix x : ℕ) → x / address_count size ≡ prefix
    → x ≤ prefix * address_count size + (address_count size - 1)
to_last MaL prefix x h = omega arith
to_last size prefix x h = omega arith

between : (size : Size) (prefix x : ℕ) → prefix * address_count size ≤ x
    → x ≤ prefix * address_count size + (address_count size - 1) → x / address_count size ≡ prefix
between MaL prefix x lo hi = omega arith
between size prefix x lo hi = omega arith

-- a block that ends before another shares no address with it
pub apart_before : (a b : SizedPrefix) → last_address a < first_address b → ¬ Clash a b
apart_before a b h (x, in_a, in_b) =
    let end = to_last a.size a.prefix x in_a in
    let begin = from_first b.size b.prefix x in_b in
    omega arith

pub apart_after : (a b : SizedPrefix) → last_address b < first_address a → ¬ Clash a b
apart_after a b h (x, in_a, in_b) =
    let end = to_last b.size b.prefix x in_b in
    let begin = from_first a.size a.prefix x in_a in
    omega arith

-- of two blocks of which neither ends before the other begins, the later first address is in both
pub clash_by_ends : (a b : SizedPrefix) → first_address a ≤ last_address b
    → first_address b ≤ last_address a → Clash a b
clash_by_ends a b h k =
    elim (cases_lt (first_address a) (first_address b)) [
      | inl lt ↦ (
        first_address b,
        between a.size a.prefix (first_address b) (omega arith) k,
        between b.size b.prefix (first_address b) (omega arith) (omega arith),
      )
      | inr ge ↦ (
        first_address a,
        between a.size a.prefix (first_address a) (omega arith) (omega arith),
        between b.size b.prefix (first_address a) ge h,
      )
    ]

-- no block goes beyond a 24-bit prefix
crosses_none : (size : Size) (prefix q : ℕ) → prefix * address_count size < q * 2 ^ 24
    → prefix * address_count size + (address_count size - 1) < q * 2 ^ 24
crosses_none MaL prefix q h = omega arith
crosses_none size prefix q h = omega arith

pub ends_in_prefix : (block : SizedPrefix) (q : ℕ) → first_address block < q * 2 ^ 24
    → last_address block < q * 2 ^ 24
ends_in_prefix block q h = crosses_none block.size block.prefix q h

-- the last address of a candidate lies below the first of the next one
pub last-next : (size : Size) (k : ℕ) → last_address (sized size k) < (k + 1) * address_count size
last-next MaL k = omega arith
last-next size k = omega arith

pub last-above : (size : Size) (k c x : ℕ) → c ≤ k → x < (c + 1) * address_count size
    → x ≤ last_address (sized size k)
last-above MaL k c x h lt = omega arith
last-above size k c x h lt = omega arith

pub first-below : (size : Size) (k x : ℕ) → k < x / address_count size + 1
    → first_address (sized size k) ≤ x
first-below MaL k x h = omega arith
first-below size k x h = omega arith

pub below-past : (size : Size) (k x : ℕ) → x / address_count size + 1 ≤ k
    → x < k * address_count size
below-past MaL k x h = omega arith
below-past size k x h = omega arith

pub first-up : (size : Size) (c k : ℕ) → c ≤ k → c * address_count size ≤ k * address_count size
first-up MaL c k h = omega arith
first-up size c k h = omega arith

-- the candidates of a 24-bit prefix
pub candidate-low : (size : Size) (p k : ℕ) → k / blocks_in_prefix size ≡ p
    → p * blocks_in_prefix size ≤ k
candidate-low MaL p k h = omega arith
candidate-low size p k h = omega arith

pub candidate-high : (size : Size) (p k : ℕ) → k / blocks_in_prefix size ≡ p
    → k < p * blocks_in_prefix size + blocks_in_prefix size
candidate-high MaL p k h = omega arith
candidate-high size p k h = omega arith

pub candidate-leading : (size : Size) (p k : ℕ) → p * blocks_in_prefix size ≤ k
    → k < p * blocks_in_prefix size + blocks_in_prefix size → k / blocks_in_prefix size ≡ p
candidate-leading MaL p k lo hi = omega arith
candidate-leading size p k lo hi = omega arith

pub candidate-end : (size : Size) (p c : ℕ) → c < p * blocks_in_prefix size + blocks_in_prefix size
    → (c + 1) * address_count size ≤ (p + 1) * 2 ^ 24
candidate-end MaL p c h = omega arith
candidate-end size p c h = omega arith
