-- Why a site was not published.
use Rattle.std.specs.Prelude.{◌≡◌, ⊤, ℕ, List, Option, Some, None, IsSome}
use Rattle.reg_history.specs.Chain.{chained, says}
use Rattle.reg_history.specs.History.{TellsWrong}
use Rattle.reg_changes.specs.Replay.{IsLost, Said}
use Rattle.reg_changes.specs.declared.change.Fact.{Fact}
use Rattle.reg_changes.specs.declared.change.HistoryRecord.{HistoryRecord}
use Rattle.reg_history.specs.declared.history.Unreadable.{Unreadable}
use Rattle.reg_history.specs.declared.history.Unreadable.TheVariants as unreadable
use Rattle.reg_changes.specs.declared.said.Unrecorded.{Unrecorded}
use Rattle.reg_changes.specs.declared.said.Unrecorded.TheVariants as unrecorded
use Rattle.reg_publish.specs.Earlier.{IsEarlier, IsTied, text_there}
use Rattle.reg_publish.specs.declared.faults.HistoryFault.{HistoryFault}
use Rattle.reg_publish.specs.declared.faults.HistoryFault.TheVariants as fault
use Rattle.reg_publish.specs.declared.faults.PublishFault.{PublishFault}
use Rattle.reg_publish.specs.declared.faults.PublishFault.TheVariants.{Unpublished, History}
use Rattle.reg_source.specs.declared.unpublished.Unpublished.TheVariants as un

-- the history is at fault
abbrev pub IsOfHistory : PublishFault → Type 0
IsOfHistory (Unpublished why) = ⊥
IsOfHistory (History wrong) = ⊤

-- ---- As they are handed on

-- that bytes are no history
abbrev pub unreadable_as : Unreadable → PublishFault
unreadable_as unreadable.Memory = Unpublished un.Memory
unreadable_as unreadable.Header = History fault.Header
unreadable_as (unreadable.Wrong number) = History (fault.Record number)

-- that something is lost
abbrev pub unrecorded_as : Unrecorded → PublishFault
unrecorded_as unrecorded.Memory = Unpublished un.Memory
unrecorded_as (unrecorded.Lost subject) = History (fault.Lost subject)

-- ---- What is at fault

-- What is wrong with the files of a history, by what is there of the history and of the index: an index
-- without a history; bytes that are wrong in this way; or an index that does not name a record of the
-- history.
abbrev pub IsWrongThere : Option (List ℕ) → Option (List ℕ) → HistoryFault → Type 0
IsWrongThere changes index fault.Missing = (changes ≡ None) × IsSome index
IsWrongThere changes index fault.Header =
    (text : List ℕ) × (changes ≡ Some text) × TellsWrong text unreadable.Header
IsWrongThere changes index (fault.Record number) =
    (text : List ℕ) × (changes ≡ Some text) × TellsWrong text (unreadable.Wrong number)
IsWrongThere changes index fault.Index =
    (records : List HistoryRecord) × ((chained records).text ≡ text_there changes)
    × (IsTied index (chained records).digests → ⊥)
IsWrongThere changes index (fault.Lost subject) = ⊥

-- why the history that is there is not taken: the files are wrong, or could not be read
abbrev pub HistoryIsUnread : Option (List ℕ) → Option (List ℕ) → PublishFault → Type 0
HistoryIsUnread changes index (Unpublished why) = ⊤
HistoryIsUnread changes index (History wrong) = IsWrongThere changes index wrong

-- why a history that says this does not go on by facts: it has a subject that is lost by them, or they
-- were not taken
abbrev pub IsLostBy : Said → List Fact → PublishFault → Type 0
IsLostBy said facts (Unpublished why) = ⊤
IsLostBy said facts (History fault.Missing) = ⊥
IsLostBy said facts (History fault.Header) = ⊥
IsLostBy said facts (History (fault.Record number)) = ⊥
IsLostBy said facts (History fault.Index) = ⊥
IsLostBy said facts (History (fault.Lost subject)) = IsLost said facts subject

-- Why nothing, or no more, was published, by what was there of the history and of the index: the files of
-- the history are wrong; or the history has this subject, and it is lost by the facts, where these are
-- known to be what is published.
abbrev pub TellsWhyUnpublished : Option (List ℕ) → Option (List ℕ) → Type 0 → List Fact → PublishFault → Type 0
TellsWhyUnpublished changes index Known facts (Unpublished why) = ⊤
TellsWhyUnpublished changes index Known facts (History fault.Missing) = IsWrongThere changes index fault.Missing
TellsWhyUnpublished changes index Known facts (History fault.Header) = IsWrongThere changes index fault.Header
TellsWhyUnpublished changes index Known facts (History (fault.Record number)) =
    IsWrongThere changes index (fault.Record number)
TellsWhyUnpublished changes index Known facts (History fault.Index) = IsWrongThere changes index fault.Index
TellsWhyUnpublished changes index Known facts (History (fault.Lost subject)) =
    (records : List HistoryRecord) × IsEarlier changes index records
    × (Known → IsLost (says records) facts subject)
