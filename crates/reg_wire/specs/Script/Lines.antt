-- A script is cut after each line feed, and its lines are answered in turn.
use Rattle.std.specs.Prelude.{◌≡◌, ◌≢◌, ◌≤◌, ◌<◌, ◌⊎◌, ℕ, List, [], ◌∷◌, ◌++◌, length, take, codes, Option, MatchOption}
use Rattle.std.specs.List.{flat_map, AllByRecursion}
use Rattle.std.specs.Io.KnownBytes.{Appends, Consumes, IsAtEnd}
use Rattle.reg_wire.specs.Exchange.{Call}
use Rattle.reg_wire.specs.Script.Line.{line_of}
use Rattle.reg_wire.specs.declared.wire_fault.WireFault.{WireFault}
use Rattle.reg_wire.specs.declared.wire_fault.WireFault.TheVariants.{Read, Write, Memory}

-- ---- Lines

-- a line with its line feed
abbrev pub ended : List ℕ → List ℕ
ended line = line ++ 10 ∷ []

-- none of the bytes is a line feed
abbrev pub IsOneLine : List ℕ → Type 0
IsOneLine bytes = AllByRecursion (λ b. b ≢ 10) bytes

-- the bytes are these lines, each with its line feed, and then the rest, which has none
pub record Cut (bytes : List ℕ) (lines : List (List ℕ)) (rest : List ℕ) : Type 0 where
  pub whole : bytes ≡ flat_map ended lines ++ rest
  pub each : AllByRecursion IsOneLine lines
  pub last : IsOneLine rest

-- a rest counts as a line if it is not empty
abbrev pub rest_line : List ℕ → List (List ℕ)
rest_line [] = []
rest_line (b ∷ bs) = (b ∷ bs) ∷ []

-- the lines of a whole script, of which the last may lack its line feed
abbrev pub AreLines : List ℕ → List (List ℕ) → Type 0
AreLines script lines =
    (front : List (List ℕ)) × (rest : List ℕ) × Cut script front rest
    × (lines ≡ front ++ rest_line rest)

-- the bytes begin with these lines, each with its line feed
abbrev pub BeginWith : List ℕ → List (List ℕ) → Type 0
BeginWith bytes lines =
    (more : List ℕ) × (bytes ≡ flat_map ended lines ++ more) × AllByRecursion IsOneLine lines

-- ---- Answers: Serves says what may be answered to what a line asks, and what is there then

-- the answer to bytes that are no line of a script
abbrev pub refusal : List ℕ
refusal = codes "400 {\"error\":\"line\"}"

-- the answer where the store or memory failed
abbrev pub storage : List ℕ
storage = codes "503 {\"error\":\"storage\"}"

abbrev pub Answered : {S : Type 0} → (S → Call → List ℕ → S → Type 0) → S → List ℕ → List ℕ → S
    → Type 0
Answered Serves before line answer after =
    MatchOption (line_of line) ((answer ≡ refusal) × (after ≡ before))
    (λ asked. Serves before asked answer after)

-- the lines are answered in turn
abbrev pub Ran : {S : Type 0} → (S → Call → List ℕ → S → Type 0) → S → List (List ℕ) → List (List ℕ)
    → S → Type 0
Ran Serves before [] [] after = after ≡ before
Ran Serves before [] (answer ∷ answers) after = ⊥
Ran Serves before (line ∷ lines) [] after = ⊥
Ran {S} Serves before (line ∷ lines) (answer ∷ answers) after =
    (now : S) × Answered Serves before line answer now × Ran Serves now lines answers after

-- ---- Whole runs: `unread` and `left` are what is to be read before and after, `had` and `has`
-- what was written

-- all lines of the script were answered in turn, and nothing else was written
pub record AnswersAll {S : Type 0} (Serves : S → Call → List ℕ → S → Type 0) (first last : S)
    (unread left had has : Option (List ℕ)) : Type 0 where
  pub script : List ℕ
  pub lines : List (List ℕ)
  pub answers : List (List ℕ)
  pub is_read : Consumes unread left script
  pub at_end : IsAtEnd left
  pub cut : AreLines script lines
  pub ran : Ran Serves first lines answers last
  pub wrote : Appends had has (flat_map ended answers)

-- the lines that were answered before a fault: at one of reads all whose line feed was read
abbrev pub LinesBefore : WireFault → Option (List ℕ) → List ℕ → List (List ℕ) → Type 0
LinesBefore Read left bytes lines = (rest : List ℕ) × Cut bytes lines rest
LinesBefore Memory left bytes lines = BeginWith bytes lines ⊎ (IsAtEnd left × AreLines bytes lines)
LinesBefore (Write n) left bytes lines =
    BeginWith bytes lines ⊎ (IsAtEnd left × AreLines bytes lines)

-- all but the last of the answers
abbrev pub WithLast : List (List ℕ) → List (List ℕ) → Type 0
WithLast front answers = (last : List ℕ) × (answers ≡ front ++ last ∷ [])

-- what went out of the answers: after `Memory` all, or all but the last, which is then no fault's;
-- after `Write(n)` n bytes, which end in the last answer
abbrev pub Wrote : WireFault → List (List ℕ) → Option (List ℕ) → Option (List ℕ) → Type 0
Wrote Read answers had has = Appends had has (flat_map ended answers)
Wrote Memory answers had has =
    Appends had has (flat_map ended answers)
    ⊎ ((front : List (List ℕ)) × (last : List ℕ) × (answers ≡ front ++ last ∷ [])
    × (last ≢ storage) × Appends had has (flat_map ended front))
Wrote (Write n) answers had has =
    (front : List (List ℕ)) × WithLast front answers × (length (flat_map ended front) ≤ n)
    × (n < length (flat_map ended answers))
    × Appends had has (take n (flat_map ended answers))

-- a fault, after the first lines were answered in turn
pub record StopsAt {S : Type 0} (Serves : S → Call → List ℕ → S → Type 0) (fault : WireFault)
    (first last : S) (unread left had has : Option (List ℕ)) : Type 0 where
  pub bytes : List ℕ
  pub lines : List (List ℕ)
  pub answers : List (List ℕ)
  pub is_read : Consumes unread left bytes
  pub before : LinesBefore fault left bytes lines
  pub ran : Ran Serves first lines answers last
  pub wrote : Wrote fault answers had has
