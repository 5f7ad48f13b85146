-- The pool: the 24-bit prefixes that blocks are cut from.
use Rattle.std.specs.Prelude.{◌≡◌, ℕ, ◌/◌, ◌%◌, ◌^◌, Bool, ◌&&◌, nat_lt, nat_eq, IsTrue, List, All, Contains, ◌⊎◌, ◌↔◌}
use Rattle.std.specs.List.Sorted.{IsStrictlyIncreasing}

-- the first of the three octets of a 24-bit prefix
abbrev pub first_octet : ℕ → ℕ
first_octet prefix = prefix / 2 ^ 16

-- a 24-bit prefix of individual addresses that are universally administered: in the first octet the
-- least significant bit (I/G) and the next one (U/L) are 0
abbrev pub is_pool_prefix : ℕ → Bool
is_pool_prefix prefix = nat_lt prefix (2 ^ 24) && nat_eq (first_octet prefix % 4) 0

-- the prefixes ascend, and each may be in a pool
pub record IsPool (prefixes : List ℕ) : Type 0 where
  pub ascending : IsStrictlyIncreasing prefixes
  pub clear : All (λ prefix. IsTrue (is_pool_prefix prefix)) prefixes

-- the new pool has the prefix and those of the old one, and no other
abbrev pub AddsPrefix : List ℕ → List ℕ → ℕ → Type 0
AddsPrefix old new prefix =
    (other : ℕ) → Contains new other ↔ ((other ≡ prefix) ⊎ Contains old other)
