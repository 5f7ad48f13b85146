-- Why a history does not say just what is published.
use Rattle.std.specs.Prelude.{◌≡◌, ◌⊎◌, ⊤, List, ◌∷◌}
use Rattle.reg_changes.specs.Replay.{IsLost, Said, changes_to, subject_of}
use Rattle.reg_changes.specs.declared.change.PublishedChange.{PublishedChange}
use Rattle.reg_changes.specs.declared.change.Fact.{Fact}
use Rattle.reg_changes.specs.declared.change.Subject.{Subject}
use Rattle.reg_history.specs.declared.history.Unlike.{Unlike}
use Rattle.reg_history.specs.declared.history.Unlike.TheVariants.{Memory, Subject as Of}
use Rattle.reg_changes.specs.declared.said.Unrecorded.{Unrecorded}
use Rattle.reg_changes.specs.declared.said.Unrecorded.TheVariants as unrecorded

-- this subject is the first of which something would be recorded
abbrev pub IsFirstToRecord : Said → List Fact → Subject → Type 0
IsFirstToRecord said facts subject =
    (change : PublishedChange) × (others : List PublishedChange) × (changes_to said facts ≡ change ∷ others)
    × (subject ≡ subject_of change)

-- memory was wanting; or what was said of the subject is lost, or something would be recorded of it
abbrev pub TellsUnlike : Said → List Fact → Unlike → Type 0
TellsUnlike said facts Memory = ⊤
TellsUnlike said facts (Of subject) =
    IsLost said facts subject ⊎ IsFirstToRecord said facts subject

-- why nothing is recorded, as a comparison says it
abbrev pub unlike_of : Unrecorded → Unlike
unlike_of unrecorded.Memory = Memory
unlike_of (unrecorded.Lost subject) = Of subject
