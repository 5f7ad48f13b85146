-- Published RFCs.
use Rattle.std.specs.Prelude.{ℕ, ◌≤◌}
use Rattle.reg_ranges.specs.declared.evidence.Stream.{Stream}
use Rattle.reg_ranges.specs.declared.evidence.Track.{Track}

-- an RFC's number, the stream that published it, and its track
pub record PublishedRfc : Type 0 where
  pub number : ℕ
  pub stream : Stream
  pub track : Track

abbrev pub IsRfcNumber : ℕ → Type 0
IsRfcNumber n = (1 ≤ n) × (n ≤ 99999)
