-- What a map of what was said says.
use Rattle.std.specs.Prelude.{◌≡◌, false, ⊤, List, Option, Some, None}
use Rattle.std.specs.BTreeMap.{BTreeMap, get}
use Rattle.reg_changes.specs.Subjects.{subject_cmp}
use Rattle.reg_changes.specs.Replay.{IsLost, Said, stands}
use Rattle.reg_changes.specs.declared.change.Details.{Details}
use Rattle.reg_changes.specs.declared.change.Fact.{Fact}
use Rattle.reg_changes.specs.declared.change.Subject.{Subject}
use Rattle.reg_changes.specs.declared.said.Unrecorded.{Unrecorded}
use Rattle.reg_changes.specs.declared.said.Unrecorded.TheVariants.{Memory, Lost}

-- what the map has of a subject
abbrev pub said_by : BTreeMap Subject Details → Said
said_by map subject = get subject_cmp map subject

-- it has this of each subject
abbrev pub Says : BTreeMap Subject Details → Said → Type 0
Says map said = (subject : Subject) → said_by map subject ≡ said subject

-- memory was wanting, or what was said of the subject of a fact does not stand by it
abbrev pub DoesNotStand : Option Details → Fact → Unrecorded → Type 0
DoesNotStand before fact Memory = ⊤
DoesNotStand None fact (Lost subject) = ⊥
DoesNotStand (Some before) fact (Lost subject) =
    (subject ≡ fact.subject) × (stands before fact ≡ false)

-- memory was wanting, or the subject is lost
abbrev pub TellsLoss : Said → List Fact → Unrecorded → Type 0
TellsLoss said facts Memory = ⊤
TellsLoss said facts (Lost subject) = IsLost said facts subject
