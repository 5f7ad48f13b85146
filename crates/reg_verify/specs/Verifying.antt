-- What it means that a published folder is verified. `Found` says which bytes a file of the folder has, or
-- that it is not there; `Names` says which names the files of its folder `registries` have.
use Rattle.std.specs.Prelude.{◌≡◌, ◌≢◌, ◌≤◌, ◌<◌, ⊤, ℕ, true, false, List, [], ◌∷◌, ◌++◌, Option, Some, None, codes, length, if◌then◌else◌, ◌==◌, map, All, string_bytes}
use Rattle.std.specs.Fmt.{decimal}
use Rattle.std.specs.List.{flat_map}
use Rattle.reg_core.specs.Names.{is_name}
use Rattle.reg_core.specs.declared.holding.Listed.{Listed}
use Rattle.reg_core.specs.declared.page.Page.{Page}
use Rattle.reg_core.specs.declared.told.Told.TheVariants as tells
use Rattle.reg_history.specs.Chain.{chained, last_digest, says}
use Rattle.reg_changes.specs.declared.change.HistoryRecord.{HistoryRecord}
use Rattle.reg_history.specs.Noted.{some_begins}
use Rattle.reg_history.specs.History.{IsHistory, SaysJust, TellsWrong}
use Rattle.reg_history.specs.Unlike.{TellsUnlike}
use Rattle.reg_history.specs.Published.{block_fact, page_facts, prefix_fact, published_facts}
use Rattle.reg_changes.specs.Replay.{Said}
use Rattle.reg_changes.specs.declared.change.Class.TheVariants as class
use Rattle.reg_changes.specs.declared.change.Fact.{Fact}
use Rattle.reg_changes.specs.declared.change.Subject.{Subject}
use Rattle.reg_history.specs.declared.history.History.{History}
use Rattle.reg_history.specs.declared.history.Unlike.TheVariants as unlike
use Rattle.reg_history.specs.declared.history.Unreadable.TheVariants as unreadable
use Rattle.reg_print.specs.Listing.{listing_text}
use Rattle.reg_site.specs.Site.{told_text}
use Rattle.reg_verify.specs.Parts.{place_of}
use Rattle.reg_verify.specs.declared.part.FolderPart.{FolderPart}
use Rattle.reg_verify.specs.declared.part.FolderPart.TheVariants as part
use Rattle.reg_verify.specs.Strays.{AllHaveNames, HasNameless, HasNoStray, HasStray}
use Rattle.reg_verify.specs.Index.{IsInHistory, NamedRecord, named_record}
use Rattle.reg_verify.specs.declared.flaw.FolderFlaw.{FolderFlaw}
use Rattle.reg_verify.specs.declared.flaw.FolderFlaw.TheVariants as flaw
use Rattle.reg_verify.specs.declared.flaw.Unverified.{Unverified}
use Rattle.reg_verify.specs.declared.flaw.Unverified.TheVariants as un

-- where it is known which files a folder has: this file has these bytes, or is not there
abbrev pub Finds : {F : Type 0} → Type 0 → (F → List ℕ → Option (List ℕ)) → F → FolderPart
    → Option (List ℕ) → Type 0
Finds Tells held folder file bytes = Tells → held folder (place_of file) ≡ bytes

-- ---- The history

-- the history has these records, of which none is earlier than the one before it
pub record HasHistory (Found : FolderPart → Option (List ℕ) → Type 0) (records : List HistoryRecord) : Type 0
  where
    pub found : Found part.History (Some (chained records).text)
    pub in_order : (chained records).in_order ≡ true

-- it is the history that was read
abbrev pub IsHistoryIn : (FolderPart → Option (List ℕ) → Type 0) → History → Type 0
IsHistoryIn Found h = (records : List HistoryRecord) × HasHistory Found records × IsHistory h records

-- the index names a record that a history with these digests has
pub record HasIndex (Found : FolderPart → Option (List ℕ) → Type 0) (digests : List (List ℕ)) : Type 0
  where
    pub bytes : List ℕ
    pub named : NamedRecord
    pub found : Found part.Index (Some bytes)
    pub names : named_record bytes ≡ Some named
    pub has : IsInHistory digests named

-- ---- What is published

-- the JSON and the listing of a registry are those of this page
pub record HasPage (Found : FolderPart → Option (List ℕ) → Type 0) (page : Page) : Type 0 where
  pub tree : Found (part.Registry page.name) (Some (told_text (tells.Page page)))
  pub listing : Found (part.Listing page.name) (Some (listing_text page))

-- the JSON of the registry of this name is that of the page
pub record IsPageIn (Found : FolderPart → Option (List ℕ) → Type 0) (name : List ℕ) (page : Page) : Type 0
  where
    pub named : page.name ≡ name
    pub tree : Found (part.Registry name) (Some (told_text (tells.Page page)))

-- the facts of one registry more
abbrev pub AddsPage : (FolderPart → Option (List ℕ) → Type 0) → List Fact → List Fact → Type 0
AddsPage Found facts facts' =
    (page : Page) × HasPage Found page × (facts' ≡ facts ++ page_facts page)

-- those of the pool
abbrev pub AddsPool : (FolderPart → Option (List ℕ) → Type 0) → List Fact → List Fact → Type 0
AddsPool Found facts facts' =
    (prefixes : List ℕ) × Found part.Pool (Some (told_text (tells.Pool prefixes)))
    × (facts' ≡ facts ++ map prefix_fact prefixes)

-- those of the blocks
abbrev pub AddsBlocks : (FolderPart → Option (List ℕ) → Type 0) → List Fact → List Fact → Type 0
AddsBlocks Found facts facts' =
    (rows : List Listed) × Found part.Blocks (Some (told_text (tells.Blocks rows)))
    × (facts' ≡ facts ++ map (λ row. block_fact row.block) rows)

-- they are the facts of registries whose files are there
abbrev pub AreFactsOfPages : (FolderPart → Option (List ℕ) → Type 0) → List Fact → Type 0
AreFactsOfPages Found facts =
    (pages : List Page) × All (HasPage Found) pages × (facts ≡ flat_map page_facts pages)

-- they are the facts of registries, a pool and blocks whose files are there
pub record AreFactsOf (Found : FolderPart → Option (List ℕ) → Type 0) (facts : List Fact) : Type 0 where
  pub pages : List Page
  pub prefixes : List ℕ
  pub rows : List Listed
  pub registries : All (HasPage Found) pages
  pub pool : Found part.Pool (Some (told_text (tells.Pool prefixes)))
  pub blocks : Found part.Blocks (Some (told_text (tells.Blocks rows)))
  pub are : facts ≡ published_facts pages prefixes rows

-- ---- Verified

-- a digest was noted by these digits, of which there are enough, and one begins with them
abbrev pub IsNotedIn : List (List ℕ) → Option (List ℕ) → Type 0
IsNotedIn digests None = ⊤
IsNotedIn digests (Some digits) = (16 ≤ length digits) × (some_begins digits digests ≡ true)

-- The history of the folder has these digests, the record that the index names, and the digest that was
-- noted, if one was. What it says is just what the files publish, each of its registries has a name, and no
-- other file there is the JSON or the listing of a registry.
pub record IsVerified (Found : FolderPart → Option (List ℕ) → Type 0) (Names : List (List ℕ) → Type 0)
    (noted : Option (List ℕ)) (digests : List (List ℕ)) : Type 0 where
  pub records : List HistoryRecord
  pub facts : List Fact
  pub history : HasHistory Found records
  pub tied : digests ≡ (chained records).digests
  pub index : HasIndex Found digests
  pub published : AreFactsOf Found facts
  pub named : AllHaveNames (says records)
  pub no_stray : HasNoStray Names (says records)
  pub says : SaysJust records facts
  pub has : IsNotedIn digests noted

-- what is said of the last digest, if there is one
abbrev pub last_text : List (List ℕ) → List ℕ
last_text digests =
    if length digests == 0 then [] else codes ", last " ++ last_digest digests

-- what is said of a folder that was verified: how many changes there are, and the last digest
abbrev pub verified_text : List (List ℕ) → List ℕ
verified_text digests =
    codes "verified " ++ (decimal (length digests) ++ (codes " changes"
    ++ (last_text digests ++ codes "\n")))

-- ---- Not verified

-- what is wrong, where a digest was noted by these digits
abbrev pub TellsFlaw : (FolderPart → Option (List ℕ) → Type 0) → (List (List ℕ) → Type 0)
    → Option (List ℕ) → FolderFlaw → Type 0
TellsFlaw Found Names noted (flaw.Missing f) = Found f None
TellsFlaw Found Names noted flaw.Header =
    (text : List ℕ) × Found part.History (Some text) × TellsWrong text unreadable.Header
TellsFlaw Found Names noted (flaw.Record number) =
    (text : List ℕ) × Found part.History (Some text) × TellsWrong text (unreadable.Wrong number)
TellsFlaw Found Names noted flaw.Name =
    (records : List HistoryRecord) × HasHistory Found records × HasNameless (says records)
TellsFlaw Found Names noted flaw.Index =
    (records : List HistoryRecord) × (bytes : List ℕ) × (named : NamedRecord)
    × HasHistory Found records × Found part.Index (Some bytes)
    × (named_record bytes ≡ Some named)
    × (IsInHistory (chained records).digests named → ⊥)
TellsFlaw Found Names noted (flaw.Misspelt f) =
    (bytes : List ℕ) × Found f (Some bytes)
TellsFlaw Found Names noted flaw.Unnamed =
    (bytes : List ℕ) × Found part.Index (Some bytes) × (named_record bytes ≡ None)
TellsFlaw Found Names noted (flaw.Listing name) =
    (page : Page) × (bytes : List ℕ) × IsPageIn Found name page
    × Found (part.Listing name) (Some bytes) × (bytes ≢ listing_text page)
TellsFlaw Found Names noted (flaw.Stray file) =
    (records : List HistoryRecord) × HasHistory Found records
    × HasStray Names (says records) (string_bytes file)
TellsFlaw Found Names noted (flaw.Subject subject) =
    (records : List HistoryRecord) × (facts : List Fact) × HasHistory Found records
    × AreFactsOf Found facts × TellsUnlike (says records) facts (unlike.Subject subject)
TellsFlaw Found Names noted flaw.Short =
    (digits : List ℕ) × (noted ≡ Some digits) × (length digits < 16)
TellsFlaw Found Names noted flaw.Digest =
    (records : List HistoryRecord) × (digits : List ℕ) × HasHistory Found records
    × (noted ≡ Some digits) × (some_begins digits (chained records).digests ≡ false)

-- why a folder is not verified: memory was wanting, a file could not be read or is too large; or this is
-- wrong
abbrev pub TellsWhy : (FolderPart → Option (List ℕ) → Type 0) → (List (List ℕ) → Type 0)
    → Option (List ℕ) → Unverified → Type 0
TellsWhy Found Names noted un.Memory = ⊤
TellsWhy Found Names noted un.Read = ⊤
TellsWhy Found Names noted un.Large = ⊤
TellsWhy Found Names noted (un.Flawed f) = TellsFlaw Found Names noted f

-- ---- Parts of it

-- a registry of what is said has no name, or memory was wanting
abbrev pub IsNameless : Said → Unverified → Type 0
IsNameless said un.Memory = ⊤
IsNameless said (un.Flawed flaw.Name) = HasNameless said
IsNameless said _ = ⊥

-- the registry of a subject has no name, or memory was wanting
abbrev pub IsNamelessAt : Subject → Unverified → Type 0
IsNamelessAt subject un.Memory = ⊤
IsNamelessAt subject (un.Flawed flaw.Name) = is_name subject.registry ≡ false
IsNamelessAt subject _ = ⊥

-- a subject is a range of another registry than the one of the last name
abbrev pub IsNewRange : Option (List ℕ) → Subject → Type 0
IsNewRange last subject = (subject.class ≡ class.Range) × (last ≢ Some subject.registry)

-- it is of that one, if it is a range
abbrev pub IsOfLast : Option (List ℕ) → Subject → Type 0
IsOfLast last subject = subject.class ≡ class.Range → last ≡ Some subject.registry

-- the name of the registry of a subject came to these
abbrev pub AddsName : Subject → List (List ℕ) → List (List ℕ) → Type 0
AddsName subject names names' =
    (is_name subject.registry ≡ true) × (names' ≡ names ++ subject.registry ∷ [])

-- a subject is unlike what was said, or memory was wanting
abbrev pub IsUnlikeBy : Said → List Fact → Unverified → Type 0
IsUnlikeBy said facts un.Memory = ⊤
IsUnlikeBy said facts (un.Flawed (flaw.Subject subject)) =
    TellsUnlike said facts (unlike.Subject subject)
IsUnlikeBy said facts _ = ⊥

-- there are too few digits, or no digest begins with them
abbrev pub IsUnnotedBy : List (List ℕ) → List ℕ → Unverified → Type 0
IsUnnotedBy digests digits (un.Flawed flaw.Short) = length digits < 16
IsUnnotedBy digests digits (un.Flawed flaw.Digest) = some_begins digits digests ≡ false
IsUnnotedBy digests digits _ = ⊥
