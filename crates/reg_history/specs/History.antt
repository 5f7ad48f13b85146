-- A history that was read, and how it goes on.
use Rattle.std.specs.Prelude.{◌≡◌, ◌≢◌, ℕ, ◌+◌, true, ⊤, List, [], ◌∷◌, ◌++◌, length, if◌then◌else◌}
use Rattle.std.specs.Ordering.{is_le}
use Rattle.reg_maps.specs.Maps.{text_cmp}
use Rattle.reg_history.specs.Chain.{at, chained, header_line, next_line, says}
use Rattle.reg_changes.specs.declared.change.HistoryRecord.{HistoryRecord}
use Rattle.reg_history.specs.Moment.{moment_text}
use Rattle.reg_history.specs.Overview.{IsOverview}
use Rattle.reg_history.specs.Written.{IsText, CanBeWritten}
use Rattle.reg_changes.specs.Replay.{NothingIsLost, changes_to, facts_say, nothing}
use Rattle.reg_changes.specs.Said.{Says}
use Rattle.reg_changes.specs.declared.change.Fact.{Fact}
use Rattle.reg_changes.specs.declared.change.Subject.{Subject}
use Rattle.reg_history.specs.declared.history.History.{History}
use Rattle.reg_history.specs.declared.history.Unreadable.{Unreadable}
use Rattle.reg_history.specs.declared.history.Unreadable.TheVariants.{Memory, Header, Wrong}

-- it is the history of these records, of which none is earlier than the one before it
pub record IsHistory (h : History) (records : List HistoryRecord) : Type 0 where
  pub said : Says h.said (says records)
  pub digests : h.chain.digests.items ≡ (chained records).digests
  pub shown : IsOverview h.overview records
  pub moment : h.moment ≡ (chained records).moment
  pub in_order : (chained records).in_order ≡ true

-- it is the history of records whose text this is
abbrev pub IsHistoryOf : History → List ℕ → Type 0
IsHistoryOf h text =
    (records : List HistoryRecord) × ((chained records).text ≡ text) × IsHistory h records

-- the moment of what is recorded now: never earlier than that of the last record
abbrev pub later : List ℕ → List ℕ → List ℕ
later last now = if is_le (text_cmp last now) then now else last

-- what is recorded of facts at a moment, after these records
abbrev pub news : List HistoryRecord → ℕ → List Fact → List HistoryRecord
news records moment facts =
    at (later (chained records).moment (moment_text moment)) (changes_to (says records) facts)

-- These bytes are added to the text of the records, whose digests are then these. Nothing is lost, and
-- then it is a history that says just what the facts say.
pub record Continues (records : List HistoryRecord) (moment : ℕ) (facts : List Fact) (more : List ℕ)
    (digests : List (List ℕ)) : Type 0 where
  pub text : (chained (records ++ news records moment facts)).text
      ≡ (chained records).text ++ more
  pub tied : digests ≡ (chained (records ++ news records moment facts)).digests
  pub in_order : (chained (records ++ news records moment facts)).in_order ≡ true
  pub kept : NothingIsLost (says records) facts
  pub replayed : (subject : Subject)
      → says (records ++ news records moment facts) subject ≡ facts_say nothing facts subject

-- no record that this program writes comes next in the text, after these
abbrev pub NoneComes : List HistoryRecord → List ℕ → Type 0
NoneComes before text =
    (r : HistoryRecord) (rest : List ℕ) → IsText r
    → is_le (text_cmp (chained before).moment r.moment) ≡ true
    → text ≢ next_line (chained before).digests r ++ rest

-- after these records what comes in the text is wrong, or memory was wanting
abbrev pub IsWrongAfter : List HistoryRecord → List ℕ → Unreadable → Type 0
IsWrongAfter before text Memory = ⊤
IsWrongAfter before text Header = ⊥
IsWrongAfter before text (Wrong number) = (number ≡ length before + 1) × NoneComes before text

-- The bytes begin with the records before this number, and do not end there; and they do not begin with
-- so many records as this number says, whichever this program may have written.
pub record IsWrongAt (text : List ℕ) (number : ℕ) : Type 0 where
  pub records : List HistoryRecord
  pub rest : List ℕ
  pub counted : number ≡ length records + 1
  pub begins : (chained records).text ++ rest ≡ text
  pub more : rest ≢ []
  pub none : (others : List HistoryRecord) (end : List ℕ) → CanBeWritten others
      → length others ≡ number → (chained others).text ++ end ≢ text

-- Why bytes are no history: they have not its first line, or go on wrongly after the records before a number.
abbrev pub TellsWrong : List ℕ → Unreadable → Type 0
TellsWrong text Memory = ⊤
TellsWrong text Header = (rest : List ℕ) → text ≢ header_line ++ rest
TellsWrong text (Wrong number) = IsWrongAt text number

-- a record came to a history, with these bytes
pub record AddsRecord (h : History) (records : List HistoryRecord) (r : HistoryRecord) (bytes : List ℕ) : Type 0
  where
    pub grown : IsHistory h (records ++ r ∷ [])
    pub line : bytes ≡ next_line (chained records).digests r

-- a record came to a history, with the bytes by which a text is shorter
pub record TakesRecord (h : History) (records : List HistoryRecord) (text rest : List ℕ) : Type 0 where
  pub more : List HistoryRecord
  pub grown : IsHistory h more
  pub whole : (chained more).text ++ rest ≡ (chained records).text ++ text

-- the records say of each subject just what the facts say of it
abbrev pub SaysJust : List HistoryRecord → List Fact → Type 0
SaysJust records facts =
    (subject : Subject) → says records subject ≡ facts_say nothing facts subject
