-- Facts that are taken one after the other, and a history that goes on by them.
use Rattle.std.specs.Prelude.{◌≡◌, ℕ, true, List, ◌++◌, MatchOption}
use Rattle.reg_history.specs.Chain.{at, chained, says}
use Rattle.reg_history.specs.History.{Continues, IsHistory, later, news}
use Rattle.reg_history.specs.Moment.{moment_text}
use Rattle.reg_history.specs.Overview.{IsOverview}
use Rattle.reg_changes.specs.KeepingUp.{KeepsUp}
use Rattle.reg_changes.specs.Replay.{IsLost}
use Rattle.reg_changes.specs.Said.{said_by}
use Rattle.reg_changes.specs.declared.change.PublishedChange.{PublishedChange}
use Rattle.reg_changes.specs.declared.change.Fact.{Fact}
use Rattle.reg_changes.specs.declared.change.HistoryRecord.{HistoryRecord}
use Rattle.reg_history.specs.declared.history.History.{History}
use Rattle.reg_history.specs.declared.recorder.Recorded.{Recorded}
use Rattle.reg_history.specs.declared.recorder.Recorder.{Recorder}

-- ---- Facts

-- what facts are for: to be recorded at a moment after these records
pub record Aim : Type 0 where
  pub records : List HistoryRecord
  pub moment : ℕ
  pub facts : List Fact

-- These facts were taken: whatever aim it was on its way to with them and with others to come, it still
-- is with the others.
pub record Took {T : Type 0} (Awaits : Aim → T → List Fact → Type 0) (t t' : T) (facts : List Fact)
    : Type 0 where
  pub goes_on : (aim : Aim) (rest : List Fact) → Awaits aim t (facts ++ rest) → Awaits aim t' rest

-- a list is on its way to all facts
abbrev pub ListsFacts : Aim → List Fact → List Fact → Type 0
ListsFacts aim listed rest = listed ++ rest ≡ aim.facts

-- ---- A history that goes on

-- these are the bytes of a history with these records, and what is shown of it
pub record IsRecorded (w : Recorded) (records : List HistoryRecord) : Type 0 where
  pub text : w.text.items ≡ (chained records).text
  pub shown : IsOverview w.overview records

-- the moment of what is recorded
abbrev pub moment_of : Aim → List ℕ
moment_of aim = later (chained aim.records).moment (moment_text aim.moment)

-- what has to be recorded of the facts so far is recorded
pub record Records (aim : Aim) (r : Recorder) (rest : List Fact) : Type 0 where
  pub changes : List PublishedChange
  pub up : KeepsUp (says aim.records) aim.facts (said_by r.said) rest changes
  pub whole : IsRecorded r.whole (aim.records ++ at (moment_of aim) changes)
  pub moment : r.moment ≡ moment_of aim
  pub in_order : (chained aim.records).in_order ≡ true

-- a recorder is on its way: nothing was lost so far, or this was
abbrev pub Awaits : Aim → Recorder → List Fact → Type 0
Awaits aim r rest =
    MatchOption r.lost (Records aim r rest) (λ subject. IsLost (says aim.records) aim.facts subject)

-- it begins with the history of its records, whose bytes these are
pub record IsBegunOn (aim : Aim) (h : History) (bytes : List ℕ) (now : ℕ) : Type 0 where
  pub history : IsHistory h aim.records
  pub text : (chained aim.records).text ≡ bytes
  pub moment : now ≡ aim.moment

-- the history went on to its aim: it says just what the facts say, and nothing was lost
pub record Ends (aim : Aim) (w : Recorded) : Type 0 where
  pub more : List ℕ
  pub continues : Continues aim.records aim.moment aim.facts more
      (chained (aim.records ++ news aim.records aim.moment aim.facts)).digests
  pub whole : IsRecorded w (aim.records ++ news aim.records aim.moment aim.facts)
