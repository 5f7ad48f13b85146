-- What a history says, and what has to be recorded so that it says what is published.
use Rattle.std.specs.Prelude.{◌≡◌, ◌⊎◌, ℕ, Bool, true, false, ◌&&◌, ◌||◌, List, [], ◌∷◌, ◌++◌, Option, Some, None, option_map, if◌then◌else◌, length, ◌==◌, not, ⊤}
use Rattle.std.specs.Ordering.{is_le}
use Rattle.reg_maps.specs.Maps.{text_cmp, same_text}
use Rattle.reg_changes.specs.Subjects.{same_subject, is_entry, entry_at}
use Rattle.reg_changes.specs.declared.change.PublishedChange.{PublishedChange}
use Rattle.reg_changes.specs.declared.change.PublishedChange.TheVariants.{Made, Term}
use Rattle.reg_changes.specs.declared.change.Details.{Details}
use Rattle.reg_changes.specs.declared.change.Fact.{Fact}
use Rattle.reg_changes.specs.declared.change.PublishedStanding.{PublishedStanding}
use Rattle.reg_changes.specs.declared.change.Subject.{Subject}

-- what a change is about
abbrev pub subject_of : PublishedChange → Subject
subject_of (Made fact) = fact.subject
subject_of (Term registry value standing) = entry_at registry value

-- ---- Replaying

-- what is said of each subject, if anything is
abbrev pub Said : Type 0
Said = Subject → Option Details

-- nothing is said of any
abbrev pub nothing : Said
nothing subject = None

-- details with another standing
abbrev pub with_standing : PublishedStanding → Details → Details
with_standing standing details = record details { standing = standing }

-- what is said where a subject has another standing, if anything is said of it
abbrev pub with_standing_at : Subject → PublishedStanding → Said → Said
with_standing_at subject standing said other =
    if same_subject subject other then option_map (with_standing standing) (said other)
    else said other

-- what is said after one more change: of the subject that it is about what it says, and of any other
-- what was said before
abbrev pub after : Said → PublishedChange → Said
after said (Made fact) subject =
    if same_subject fact.subject subject then Some fact.details else said subject
after said (Term registry value standing) subject =
    with_standing_at (entry_at registry value) standing said subject

-- what is said after changes, one after the other
abbrev pub replay : Said → List PublishedChange → Said
replay said [] = said
replay said (change ∷ changes) = replay (after said change) changes

-- what is said by facts alone
abbrev pub facts_say : Said → List Fact → Said
facts_say said [] = said
facts_say said (fact ∷ facts) = facts_say (after said (Made fact)) facts

-- ---- What has to be recorded

-- the same standing
abbrev pub same_standing : PublishedStanding → PublishedStanding → Bool
same_standing a b = same_text a.expires b.expires && same_text a.held b.held

-- the same but for the standing
abbrev pub same_given : Details → Details → Bool
same_given a b =
    same_text a.description b.description && same_text a.policy b.policy
    && same_text a.first b.first && same_text a.assignee b.assignee

-- An entry expires no earlier than it did, or no more; where it did not, it still does not.
abbrev pub is_no_earlier : List ℕ → List ℕ → Bool
is_no_earlier before now =
    (if length now == 0 then true
    else not (length before == 0) && is_le (text_cmp before now))

-- What was published of a subject stands: it is the same, or an entry that has another standing,
-- and expires no earlier.
abbrev pub stands : Details → Fact → Bool
stands before fact =
    same_given before fact.details
    && (same_standing before.standing fact.details.standing
    || (is_entry fact.subject
    && is_no_earlier before.standing.expires fact.details.standing.expires))

-- what is recorded of a fact, by what was said about its subject
abbrev pub recorded : Option Details → Fact → List PublishedChange
recorded None fact = Made fact ∷ []
recorded (Some before) fact =
    if same_standing before.standing fact.details.standing then []
    else Term fact.subject.registry fact.subject.value fact.details.standing ∷ []

-- nothing is said any more about this subject
abbrev pub without : Subject → Said → Said
without subject said other = if same_subject subject other then None else said other

-- what is recorded of facts, each of which is compared with what was said about its subject
abbrev pub changes_to : Said → List Fact → List PublishedChange
changes_to said [] = []
changes_to said (fact ∷ facts) =
    recorded (said fact.subject) fact ++ changes_to (without fact.subject said) facts

-- ---- What was lost

-- some fact has this
abbrev pub SomeFact : (Fact → Type 0) → List Fact → Type 0
SomeFact Has [] = ⊥
SomeFact Has (fact ∷ facts) = Has fact ⊎ SomeFact Has facts

-- a fact is about a subject
abbrev pub IsAbout : Subject → Fact → Type 0
IsAbout subject fact = same_subject fact.subject subject ≡ true

-- something that was said of its subject stands by a fact, or does not
abbrev pub StandsBy : Bool → Subject → Details → Fact → Type 0
StandsBy so subject before fact = IsAbout subject fact × (stands before fact ≡ so)

-- whatever was said of a subject is still published, and stands
abbrev pub NothingIsLost : Said → List Fact → Type 0
NothingIsLost said facts =
    (subject : Subject) (before : Details) → said subject ≡ Some before
    → SomeFact (StandsBy true subject before) facts

-- something was said of the subject, and is published no more, or otherwise
pub record IsLost (said : Said) (facts : List Fact) (subject : Subject) : Type 0 where
  pub before : Details
  pub was_said : said subject ≡ Some before
  pub gone : (SomeFact (IsAbout subject) facts → ⊥)
      ⊎ SomeFact (StandsBy false subject before) facts

-- what was said of its subject stands by a fact, if something was
abbrev pub StandsIf : Option Details → Fact → Type 0
StandsIf None fact = ⊤
StandsIf (Some before) fact = stands before fact ≡ true

-- Where these changes are recorded after those by which something is said, then replaying all of them
-- says of each subject just what the facts say of it.
abbrev pub SaysAfter : Said → List Fact → List PublishedChange → Type 0
SaysAfter said facts changes =
    (old : List PublishedChange) → ((subject : Subject) → said subject ≡ replay nothing old subject)
    → (subject : Subject)
    → replay nothing (old ++ changes) subject ≡ facts_say nothing facts subject
