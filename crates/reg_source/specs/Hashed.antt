-- Bytes that are hashed as they are taken.
use Rattle.std.specs.Prelude.{◌≡◌, ℕ, List, ◌++◌}
use Rattle.sha2.specs.Hashers.{Holds256}
use Rattle.sha2.specs.declared.Sha256.{Sha256}

-- a hasher is fed with these bytes
abbrev pub FeedsHasher : Sha256 → Sha256 → List ℕ → Type 0
FeedsHasher old new bytes = (fed : List ℕ) → Holds256 old fed → Holds256 new (fed ++ bytes)

-- a hasher is fed with just the bytes that were taken of those that were to be given
pub record FeedsTaken (old new : Sha256) (rest rest' : List ℕ) : Type 0 where
  pub taken : List ℕ
  pub split : rest ≡ taken ++ rest'
  pub fed : FeedsHasher old new taken
