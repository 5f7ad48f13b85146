-- What is given in portions.
use Rattle.std.specs.Prelude.{◌≡◌, ℕ, ◌+◌, ◌<◌, List, [], ◌++◌, length, nat_lt, if◌then◌else◌, Bool, true, false}
use Rattle.reg_pages.specs.declared.portions.Next.{Next}
use Rattle.reg_pages.specs.declared.portions.Next.TheVariants as next

-- Some bytes came to what stood before: those that were to be given next, and at least one.
pub record GivesPortion (old new rest rest' : List ℕ) : Type 0 where
  pub whole : new ++ rest' ≡ old ++ rest
  pub less : length rest' < length rest

-- No byte was to be given, and nothing came.
pub record GivesNothing (old new rest rest' : List ℕ) : Type 0 where
  pub none : rest ≡ []
  pub still : rest' ≡ []
  pub same : new ≡ old

-- whether a portion was given
abbrev pub GivesIfMore : Bool → List ℕ → List ℕ → List ℕ → List ℕ → Type 0
GivesIfMore true old new rest rest' = GivesPortion old new rest rest'
GivesIfMore false old new rest rest' = GivesNothing old new rest rest'

-- what is given after this, where there are so many rows
abbrev pub after : Next → ℕ → Next
after next.Above rows = next.Row 0
after (next.Row place) rows = if nat_lt place rows then next.Row (place + 1) else next.Nothing
after next.Nothing rows = next.Nothing
