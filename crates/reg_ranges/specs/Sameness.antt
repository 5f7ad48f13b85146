-- Tests of sameness. Each is true exactly of equal values, which is a law.
use Rattle.std.specs.Prelude.{ℕ, Bool, ◌&&◌, ◌==◌, List}
use Rattle.std.specs.Option.{option_eq}
use Rattle.std.specs.Cmp.Lexicographic.{pointwise}
use Rattle.std.specs.Str.{bytes_eq}
use Rattle.reg_ranges.specs.declared.policy.Policy.{Policy}
use Rattle.reg_ranges.specs.declared.policy.Treatment.{Treatment}
use Rattle.reg_ranges.specs.declared.evidence.Stream.{Stream}
use Rattle.reg_ranges.specs.declared.evidence.Track.{Track}
use Rattle.reg_ranges.specs.declared.evidence.Evidence.{Evidence}
use Rattle.reg_ranges.specs.declared.range.Range.{Range}
use Rattle.reg_ranges.specs.Rfcs.{PublishedRfc}
use Rattle.reg_ranges.specs.Tables.{Table}
use Rattle.reg_ranges.specs.Words.{policy_word, treatment_word, stream_word, track_word}

-- both have the same word
abbrev pub same_by : {T : Type 0} → (T → List ℕ) → T → T → Bool
same_by word x y = bytes_eq (word x) (word y)

-- tests of sameness
abbrev pub same_policy : Policy → Policy → Bool
same_policy p q = same_by policy_word p q

abbrev pub same_treatment : Treatment → Treatment → Bool
same_treatment t u = same_by treatment_word t u

abbrev pub same_stream : Stream → Stream → Bool
same_stream s t = same_by stream_word s t

abbrev pub same_track : Track → Track → Bool
same_track s t = same_by track_word s t

abbrev pub same_rfc : PublishedRfc → PublishedRfc → Bool
same_rfc a b =
    (a.number == b.number) && (same_stream a.stream b.stream && same_track a.track b.track)

abbrev pub same_evidence : Evidence → Evidence → Bool
same_evidence a b =
    option_eq bytes_eq a.contact b.contact && (option_eq bytes_eq a.spec b.spec
    && (option_eq same_rfc a.rfc b.rfc && option_eq bytes_eq a.minute b.minute))

abbrev pub same_range : Range → Range → Bool
same_range a b =
    (a.lo == b.lo)
    && ((a.hi == b.hi)
    && (same_treatment a.treatment b.treatment && option_eq bytes_eq a.note b.note))

abbrev pub same_table : Table → Table → Bool
same_table a b = (a.max == b.max) && pointwise same_range a.ranges b.ranges
