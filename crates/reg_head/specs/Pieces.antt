-- What was read beyond the bytes that were there, for private clauses.
use Rattle.std.specs.Prelude.{◌≡◌, ◌≤◌, ◌<◌, ℕ, max, List, ◌++◌, length, Option}
use Rattle.std.specs.Io.KnownBytes.{Consumes, IsAtEnd}
use Rattle.reg_head.specs.declared.malformed.Malformed.TheVariants as malformed
use Rattle.reg_head.specs.declared.unread.Unread.{Unread}
use Rattle.reg_head.specs.declared.unread.Unread.TheVariants as unread

-- the bytes that were read follow those that were there, and there are then no more than `end`,
-- unless there were before
abbrev pub Grows : Option (List ℕ) → Option (List ℕ) → List ℕ → ℕ → List ℕ → Type 0
Grows before left had end has =
    (more : List ℕ) × Consumes before left more × (has ≡ had ++ more)
    × (length has ≤ max end (length had))

-- some bytes were read, and there are still fewer than `end`
abbrev pub GrowsShort : Option (List ℕ) → Option (List ℕ) → List ℕ → ℕ → Type 0
GrowsShort before left had end =
    (more : List ℕ) × Consumes before left more × (length (had ++ more) < end)

-- why there are fewer than `end` bytes: no more came, or a read failed
abbrev pub LacksBytes : Option (List ℕ) → Option (List ℕ) → List ℕ → ℕ → Unread → Type 0
LacksBytes before left had end (unread.Refused malformed.Short) =
    GrowsShort before left had end × IsAtEnd left
LacksBytes before left had end (unread.Refused malformed.Head) = ⊥
LacksBytes before left had end (unread.Refused malformed.Encoding) = ⊥
LacksBytes before left had end (unread.Refused malformed.Length) = ⊥
LacksBytes before left had end (unread.Refused malformed.Large) = ⊥
LacksBytes before left had end unread.Read = GrowsShort before left had end
LacksBytes before left had end unread.Memory = Unit {0}
