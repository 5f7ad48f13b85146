-- What records show of their changes.
use Rattle.std.specs.Prelude.{ℕ, List, [], ◌∷◌, codes, if◌then◌else◌}
use Rattle.std.specs.Str.{bytes_eq}
use Rattle.reg_changes.specs.Words.{class_word}
use Rattle.reg_changes.specs.declared.change.PublishedChange.{PublishedChange}
use Rattle.reg_changes.specs.declared.change.PublishedChange.TheVariants.{Made, Term}
use Rattle.reg_changes.specs.declared.change.HistoryRecord.{HistoryRecord}

-- the name of the registry that a change is about; nothing where it is of none
abbrev pub registry_of : PublishedChange → List ℕ
registry_of (Made fact) = fact.subject.registry
registry_of (Term registry value standing) = registry

-- its word
abbrev pub change_word : PublishedChange → List ℕ
change_word (Made fact) = class_word fact.subject.class
change_word (Term registry value standing) = codes "term"

-- the value or the values, or the digits
abbrev pub value_of : PublishedChange → List ℕ
value_of (Made fact) = fact.subject.value
value_of (Term registry value standing) = value

-- what is first published as its description
abbrev pub description_of : PublishedChange → List ℕ
description_of (Made fact) = fact.details.description
description_of (Term registry value standing) = []

-- when a registry was last changed, where that was known before these records
abbrev pub changed_after : List ℕ → List ℕ → List HistoryRecord → List ℕ
changed_after name known [] = known
changed_after name known (r ∷ records) =
    changed_after name (if bytes_eq (registry_of r.change) name then r.moment else known) records

-- when a registry was last changed; nothing where no record is about it
abbrev pub last_changed : List HistoryRecord → List ℕ → List ℕ
last_changed records name = changed_after name [] records
