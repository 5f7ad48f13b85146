-- Digests that were noted by their first digits.
use Rattle.std.specs.Prelude.{ℕ, Bool, List, nat_eq}
use Rattle.std.specs.List.{list_any, starts_with}

-- some digest begins with these digits
abbrev pub some_begins : List ℕ → List (List ℕ) → Bool
some_begins digits digests = list_any (λ digest. starts_with nat_eq digest digits) digests
