-- Where a run stands between two bytes of its script.
use Rattle.std.specs.Prelude.{◌≡◌, ◌≢◌, ◌≤◌, ◌+◌, ℕ, List, [], length, take, Option}
use Rattle.std.specs.List.{flat_map}
use Rattle.std.specs.Io.KnownBytes.{Appends}
use Rattle.reg_wire.specs.Exchange.{Call}
use Rattle.reg_wire.specs.Script.Line.{most_bytes}
use Rattle.reg_wire.specs.Script.Lines.{storage, ended, Answered, Cut, AreLines, BeginWith, Ran, Wrote}
use Rattle.reg_wire.specs.declared.wire_fault.WireFault.{WireFault}
use Rattle.reg_wire.specs.declared.wire_fault.WireFault.TheVariants.{Read, Write, Memory}
use Rattle.reg_wire.specs.declared.script.responder.Unanswered.{Unanswered}
use Rattle.reg_wire.specs.declared.script.responder.Unanswered.TheVariants as without

-- what is kept of a line: all of it, or so much that it is too long
abbrev pub IsBuffered : List ℕ → List ℕ → Type 0
IsBuffered line buffered = buffered ≡ take (most_bytes + 1) line

-- what is there where a line has no answer
abbrev pub Unserved : {S : Type 0} → (S → Call → List ℕ → S → Type 0) → S → Call → Unanswered → S
    → Type 0
Unserved Serves before line without.Storage after = Serves before line storage after
Unserved Serves before line without.Memory after =
    (answer : List ℕ) × (answer ≢ storage) × Serves before line answer after

-- what went out of an answer before a fault, after `sent` bytes of others
abbrev pub CutShort : WireFault → ℕ → List ℕ → Option (List ℕ) → Option (List ℕ) → Type 0
CutShort Read sent answer had has = ⊥
CutShort Memory sent answer had has = (answer ≢ storage) × Appends had has []
CutShort (Write n) sent answer had has =
    (m : ℕ) × (m ≤ length answer) × (n ≡ sent + m) × Appends had has (take m (ended answer))

-- a line of which this is kept is answered, and this went out of its answer
abbrev pub AnswersLine : {S : Type 0} → (S → Call → List ℕ → S → Type 0) → S → List ℕ → S
    → (List ℕ → Type 0) → Type 0
AnswersLine Serves before buffered after Went =
    (line : List ℕ) → IsBuffered line buffered
    → (answer : List ℕ) × Answered Serves before line answer after × Went answer

-- after some bytes of the script
pub record Progress {S : Type 0} (Serves : S → Call → List ℕ → S → Type 0) (first : S)
    (had : Option (List ℕ)) (bytes buffered : List ℕ) (sent : ℕ) (now : S) (has : Option (List ℕ)) :
    Type 0 where
  pub lines : List (List ℕ)
  pub rest : List ℕ
  pub answers : List (List ℕ)
  pub cut : Cut bytes lines rest
  pub is_buffered : IsBuffered rest buffered
  pub ran : Ran Serves first lines answers now
  pub wrote : Appends had has (flat_map ended answers)
  pub count : sent ≡ length (flat_map ended answers)

-- a run that began anywhere and stands here, after any bytes of its script, comes to this
abbrev pub FromProgress : {S : Type 0} → (S → Call → List ℕ → S → Type 0) → List ℕ → ℕ → S
    → Option (List ℕ) → (S → Option (List ℕ) → List ℕ → Type 0) → Type 0
FromProgress {S} Serves buffered sent now has Comes =
    (first : S) (had : Option (List ℕ)) (bytes : List ℕ)
    → Progress Serves first had bytes buffered sent now has → Comes first had bytes

-- what went out of the answers before a fault that is not of reads
abbrev pub WroteSome : WireFault → List (List ℕ) → Option (List ℕ) → Option (List ℕ) → Type 0
WroteSome Read answers had has = ⊥
WroteSome Memory answers had has = Wrote Memory answers had has
WroteSome (Write n) answers had has = Wrote (Write n) answers had has

-- the first lines of some bytes were answered in turn: `Lines` says which, and `Went` what went out
pub record RanOver {S : Type 0} (Serves : S → Call → List ℕ → S → Type 0) (first : S)
    (Lines Went : List (List ℕ) → Type 0) (now : S) : Type 0 where
  pub lines : List (List ℕ)
  pub answers : List (List ℕ)
  pub over : Lines lines
  pub ran : Ran Serves first lines answers now
  pub wrote : Went answers

-- all lines of the bytes were answered
abbrev pub Whole : {S : Type 0} → (S → Call → List ℕ → S → Type 0) → S → Option (List ℕ) → List ℕ
    → S → Option (List ℕ) → Type 0
Whole Serves first had bytes now has =
    RanOver Serves first (AreLines bytes) (λ answers. Appends had has (flat_map ended answers)) now

-- a fault after the first lines of the bytes
abbrev pub Halted : {S : Type 0} → (S → Call → List ℕ → S → Type 0) → WireFault → S
    → Option (List ℕ) → List ℕ → S → Option (List ℕ) → Type 0
Halted Serves fault first had bytes now has =
    RanOver Serves first (BeginWith bytes) (λ answers. WroteSome fault answers had has) now

-- a fault in the answer to the last line of the bytes, which lacks its line feed
abbrev pub HaltedLast : {S : Type 0} → (S → Call → List ℕ → S → Type 0) → WireFault → S
    → Option (List ℕ) → List ℕ → S → Option (List ℕ) → Type 0
HaltedLast Serves fault first had bytes now has =
    RanOver Serves first (AreLines bytes) (λ answers. WroteSome fault answers had has) now
