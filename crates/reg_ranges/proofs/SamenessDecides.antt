-- Tests of sameness are true exactly of equal values.
use Rattle.std.proofs.Common.{◌≡◌, ℕ, Bool, ◌&&◌, List, Option, Some, None, refl, ap, ◌==◌}
use Rattle.std.specs.Bool.{Decides}
use Rattle.std.specs.Option.{option_eq}
use Rattle.std.specs.Cmp.Lexicographic.{pointwise}
use Rattle.std.specs.Str.{bytes_eq}
use Rattle.std.proofs.lemmas.Bool.{and_parts, and_from, eqb-true, eq-eqb}
use Rattle.std.proofs.lemmas.Slice.Eq.{bytes_eq-Decides, slice_eq-Decides}
use Rattle.reg_ranges.specs.declared.policy.Policy.{Policy}
use Rattle.reg_ranges.specs.declared.policy.Treatment.{Treatment}
use Rattle.reg_ranges.specs.declared.evidence.Stream.{Stream}
use Rattle.reg_ranges.specs.declared.evidence.Track.{Track}
use Rattle.reg_ranges.specs.declared.evidence.Evidence.{Evidence}
use Rattle.reg_ranges.specs.declared.range.Range.{Range}
use Rattle.reg_ranges.specs.Rfcs.{PublishedRfc}
use Rattle.reg_ranges.specs.Tables.{Table}
use Rattle.reg_ranges.specs.Words.{ReadsWords, policy_word, read_policy, treatment_word, read_treatment, stream_word, read_stream, track_word, read_track}
use Rattle.reg_ranges.specs.Sameness.{same_by, same_policy, same_treatment, same_stream, same_track, same_rfc, same_evidence, same_range, same_table}
use Rattle.reg_ranges.proofs.WordsReadBack.{policies_read, treatments_read, streams_read, tracks_read}

word_decided : {T : Type 0} (word : T → List ℕ) (read : List ℕ → Option T) → ReadsWords word read
    → (x y : T) → Decides (same_by word x y) (x ≡ y)
word_decided {T} word read reads x y = (
  λ h.
      let same : word x ≡ word y = (bytes_eq-Decides (word x) (word y)).0 h in
      let first : read (word x) ≡ Some x = (reads x (word x)).1 refl in
      let second : read (word x) ≡ Some y = (reads y (word x)).1 same in
      cc,
  λ e. (bytes_eq-Decides (word x) (word y)).1 (ap word e),
)

pub policy_decided : (p q : Policy) → Decides (same_policy p q) (p ≡ q)
policy_decided = word_decided policy_word read_policy policies_read

pub treatment_decided : (t u : Treatment) → Decides (same_treatment t u) (t ≡ u)
treatment_decided = word_decided treatment_word read_treatment treatments_read

pub stream_decided : (s t : Stream) → Decides (same_stream s t) (s ≡ t)
stream_decided = word_decided stream_word read_stream streams_read

pub track_decided : (s t : Track) → Decides (same_track s t) (s ≡ t)
track_decided = word_decided track_word read_track tracks_read

pub option_decided : {T : Type 0} (same : T → T → Bool) → ((x y : T) → Decides (same x y) (x ≡ y))
    → (o p : Option T) → Decides (option_eq same o p) (o ≡ p)
option_decided {T} same each None None = (λ h. refl, λ e. refl)
option_decided {T} same each None (Some y) = (λ h. absurd (cc), λ e. absurd (cc))
option_decided {T} same each (Some x) None = (λ h. absurd (cc), λ e. absurd (cc))
option_decided {T} same each (Some x) (Some y) =
    (λ h. ap Some ((each x y).0 h), λ e. (each x y).1 (cc))

pub both_decided : {A B : Type 0} (a b : Bool) → Decides a A → Decides b B
    → Decides (a && b) (A × B)
both_decided {A} {B} a b first second = (
  λ h. let parts = and_parts a b h in
      (first.0 parts.0, second.0 parts.1),
  λ e. and_from a b (first.1 e.0) (second.1 e.1),
)

nat_decided : (m n : ℕ) → Decides (m == n) (m ≡ n)
nat_decided m n = (eqb-true m n, eq-eqb m n)

pub rfc_decided : (a b : PublishedRfc) → Decides (same_rfc a b) (a ≡ b)
rfc_decided a b =
    let parts =
    both_decided (a.number == b.number)
    (same_stream a.stream b.stream && same_track a.track b.track)
    (nat_decided a.number b.number)
    (both_decided (same_stream a.stream b.stream) (same_track a.track b.track)
    (stream_decided a.stream b.stream) (track_decided a.track b.track)) in (
      λ h. let e = parts.0 h in λ i. record { number = e.0 i; stream = e.1.0 i; track = e.1.1 i },
      λ e. parts.1 (
        ap (λ (x : PublishedRfc). x.number) e,
        (ap (λ (x : PublishedRfc). x.stream) e, ap (λ (x : PublishedRfc). x.track) e),
      ),
    )

text_decided : (o p : Option (List ℕ)) → Decides (option_eq bytes_eq o p) (o ≡ p)
text_decided = option_decided bytes_eq bytes_eq-Decides

pub evidence_decided : (a b : Evidence) → Decides (same_evidence a b) (a ≡ b)
evidence_decided a b =
    let contact = text_decided a.contact b.contact in
    let spec = text_decided a.spec b.spec in
    let rfc = option_decided same_rfc rfc_decided a.rfc b.rfc in
    let minute = text_decided a.minute b.minute in
    let parts =
    both_decided (option_eq bytes_eq a.contact b.contact)
    (option_eq bytes_eq a.spec b.spec
    && (option_eq same_rfc a.rfc b.rfc && option_eq bytes_eq a.minute b.minute)) contact
    (both_decided (option_eq bytes_eq a.spec b.spec)
    (option_eq same_rfc a.rfc b.rfc && option_eq bytes_eq a.minute b.minute) spec
    (both_decided (option_eq same_rfc a.rfc b.rfc) (option_eq bytes_eq a.minute b.minute) rfc
    minute)) in (
      λ h. let e = parts.0 h in
          λ i. record { contact = e.0 i; spec = e.1.0 i; rfc = e.1.1.0 i; minute = e.1.1.1 i },
      λ e. parts.1 (
        ap (λ (x : Evidence). x.contact) e,
        (
          ap (λ (x : Evidence). x.spec) e,
          (ap (λ (x : Evidence). x.rfc) e, ap (λ (x : Evidence). x.minute) e),
        ),
      ),
    )

pub range_decided : (a b : Range) → Decides (same_range a b) (a ≡ b)
range_decided a b =
    let note = text_decided a.note b.note in
    let parts =
    both_decided (a.lo == b.lo)
    ((a.hi == b.hi)
    && (same_treatment a.treatment b.treatment && option_eq bytes_eq a.note b.note))
    (nat_decided a.lo b.lo)
    (both_decided (a.hi == b.hi)
    (same_treatment a.treatment b.treatment && option_eq bytes_eq a.note b.note)
    (nat_decided a.hi b.hi)
    (both_decided (same_treatment a.treatment b.treatment) (option_eq bytes_eq a.note b.note)
    (treatment_decided a.treatment b.treatment) note)) in (
      λ h. let e = parts.0 h in
          λ i. record { lo = e.0 i; hi = e.1.0 i; treatment = e.1.1.0 i; note = e.1.1.1 i },
      λ e. parts.1 (
        ap (λ (x : Range). x.lo) e,
        (
          ap (λ (x : Range). x.hi) e,
          (ap (λ (x : Range). x.treatment) e, ap (λ (x : Range). x.note) e),
        ),
      ),
    )

pub ranges_decided : (xs ys : List Range) → Decides (pointwise same_range xs ys) (xs ≡ ys)
ranges_decided xs ys = slice_eq-Decides range_decided xs ys (pointwise same_range xs ys) refl

pub table_decided : (a b : Table) → Decides (same_table a b) (a ≡ b)
table_decided a b =
    let parts =
    both_decided (a.max == b.max) (pointwise same_range a.ranges b.ranges)
    (nat_decided a.max b.max) (ranges_decided a.ranges b.ranges) in (
      λ h. let e = parts.0 h in
          λ i. record { max = e.0 i; ranges = e.1 i },
      λ e. parts.1 (ap (λ (x : Table). x.max) e, ap (λ (x : Table). x.ranges) e),
    )
