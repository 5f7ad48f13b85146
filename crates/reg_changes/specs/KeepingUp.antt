-- Facts that are compared one after the other with what was said.
use Rattle.std.specs.Prelude.{◌≡◌, ◌⊎◌, false, List, [], ◌∷◌, ◌++◌, None}
use Rattle.reg_changes.specs.Replay.{Said, SomeFact, StandsBy, StandsIf, changes_to, without}
use Rattle.reg_changes.specs.declared.change.PublishedChange.{PublishedChange}
use Rattle.reg_changes.specs.declared.change.Details.{Details}
use Rattle.reg_changes.specs.declared.change.Fact.{Fact}
use Rattle.reg_changes.specs.declared.change.Subject.{Subject}

-- all that was said about the subjects of facts stands by the first of them
abbrev pub AllStand : Said → List Fact → Type 0
AllStand said [] = Unit {0}
AllStand said (fact ∷ facts) =
    StandsIf (said fact.subject) fact × AllStand (without fact.subject said) facts

-- what is left of what was said without the subjects of facts
abbrev pub without_all : Said → List Fact → Said
without_all said [] = said
without_all said (fact ∷ facts) = without_all (without fact.subject said) facts

-- a part of what is said: of each subject the same, or nothing
abbrev pub IsPartSaid : Said → Said → Type 0
IsPartSaid part said = (s : Subject) → (part s ≡ None) ⊎ (part s ≡ said s)

-- What is so of all facts follows from what is so of those that are left: what is recorded of them,
-- that what was said stands by them, and what of it is left.
pub record KeepsUp (whole : Said) (facts : List Fact) (said : Said) (rest : List Fact)
    (changes : List PublishedChange) : Type 0 where
  pub made : changes_to whole facts ≡ changes ++ changes_to said rest
  pub stood : AllStand said rest → AllStand whole facts
  pub left : without_all whole facts ≡ without_all said rest
  pub part : IsPartSaid said whole
  pub later : (s : Subject) (before : Details) → SomeFact (StandsBy false s before) rest
      → SomeFact (StandsBy false s before) facts
