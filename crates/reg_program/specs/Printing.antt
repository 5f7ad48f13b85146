-- What a job prints.
use Rattle.std.specs.Prelude.{ℕ, List, Option}
use Rattle.std.specs.Io.KnownBytes.{Appends}

-- just one text of this kind is printed
pub record Prints (had has : Option (List ℕ)) (Is : List ℕ → Type 0) : Type 0 where
  pub text : List ℕ
  pub is : Is text
  pub wrote : Appends had has text
