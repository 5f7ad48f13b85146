-- What one look at the bytes that have come says, for private clauses.
use Rattle.std.specs.Prelude.{◌≤◌, ◌⊎◌, ℕ, List, ◌++◌, length, drop, Option}
use Rattle.std.specs.Io.KnownBytes.{Consumes, IsAtEnd}
use Rattle.httparse.specs.Grammar.{RequestHead, HasNoRequest}
use Rattle.httparse.specs.Spans.{IsRequestAt, IsRequestWithin}
use Rattle.httparse.specs.declared.spans.HeaderSpan.{HeaderSpan}
use Rattle.httparse.specs.declared.spans.RequestSpans.{RequestSpans}
use Rattle.reg_head.specs.Head.{HasHead, HasNoHead, MayBecomeHead, most_bytes}
use Rattle.reg_head.specs.declared.malformed.Malformed.TheVariants as malformed
use Rattle.reg_head.specs.declared.unread.Unread.{Unread}
use Rattle.reg_head.specs.declared.unread.Unread.TheVariants as unread
use Rattle.reg_head.specs.declared.head.Look.{Look}
use Rattle.reg_head.specs.declared.head.Look.TheVariants as look

-- the spans are those of the head that the bytes begin with
pub record IsHeadAt (buf : List ℕ) (headers : List HeaderSpan) (spans : RequestSpans)
    (head : RequestHead) : Type 0 where
  pub has : HasHead buf head (drop spans.len buf)
  pub at : IsRequestAt buf headers spans head
  pub within : IsRequestWithin buf headers spans

-- what a look at the bytes says: a head is there; none can come; none is there yet
abbrev pub IsWhole : List ℕ → List HeaderSpan → Look → Type 0
IsWhole buf headers (look.Whole spans) = (head : RequestHead) × IsHeadAt buf headers spans head
IsWhole buf headers look.Refused = Unit {0}
IsWhole buf headers look.Partial = Unit {0}

abbrev pub LookIsRefused : List ℕ → Look → Type 0
LookIsRefused buf (look.Whole spans) = Unit {0}
LookIsRefused buf look.Refused = (more : List ℕ) → HasNoHead (buf ++ more)
LookIsRefused buf look.Partial = Unit {0}

abbrev pub IsPartial : List ℕ → Look → Type 0
IsPartial buf (look.Whole spans) = Unit {0}
IsPartial buf look.Refused = Unit {0}
IsPartial buf look.Partial = HasNoRequest buf × MayBecomeHead buf

-- why no head was read: there is none in the bytes, whatever follows or at their end, or a read
-- failed where one could still come; no more bytes were read than those of a head
abbrev pub IsHeadless : Option (List ℕ) → Option (List ℕ) → Unread → Type 0
IsHeadless before left (unread.Refused malformed.Head) =
    (bytes : List ℕ) × Consumes before left bytes × (length bytes ≤ most_bytes)
    × (((more : List ℕ) → HasNoHead (bytes ++ more)) ⊎ (IsAtEnd left × HasNoHead bytes))
IsHeadless before left (unread.Refused malformed.Encoding) = ⊥
IsHeadless before left (unread.Refused malformed.Length) = ⊥
IsHeadless before left (unread.Refused malformed.Large) = ⊥
IsHeadless before left (unread.Refused malformed.Short) = ⊥
IsHeadless before left unread.Read =
    (bytes : List ℕ) × Consumes before left bytes × HasNoHead bytes × MayBecomeHead bytes
IsHeadless before left unread.Memory = Unit {0}
