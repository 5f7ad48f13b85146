-- What is read of a reader, up to a limit.
use Rattle.std.specs.Prelude.{◌≡◌, ◌<◌, ℕ, List, length, Option, IfSome}

-- the bytes are all that there are, where those are known
abbrev pub AreAll : Option (List ℕ) → List ℕ → Type 0
AreAll known bytes = IfSome known (λ all. bytes ≡ all)

-- the bytes are more than so many, where they are known
abbrev pub AreMore : ℕ → Option (List ℕ) → Type 0
AreMore most known = IfSome known (λ all. most < length all)
