-- Bytes that are compared and copied.
use Rattle.std.specs.Prelude.{◌≡◌, ℕ, List, ◌++◌, take, length, IfSome, Option, Some, None}
use Rattle.std.specs.Io.KnownBytes.{Consumes}

-- Bytes that were to be given next were compared with those that a reader gives. The reader gives them
-- all and no other; or, where so many are the same, the others were gathered or are still to be given.
abbrev pub IsCompared : Option ℕ → Option (List ℕ) → List ℕ → List ℕ → List ℕ → Type 0
IsCompared None read gathered rest rest' = IfSome read (λ there. there ≡ rest)
IsCompared (Some count) read gathered rest rest' =
    IfSome read (λ there. take count there ++ (gathered ++ rest') ≡ rest)

-- so many bytes of a reader came to those that a file has
pub record IsCopied (read read' : Option (List ℕ)) (written written' : List ℕ) (count : ℕ) : Type 0 where
  pub bytes : List ℕ
  pub taken : Consumes read read' bytes
  pub counted : length bytes ≡ count
  pub added : written' ≡ written ++ bytes
