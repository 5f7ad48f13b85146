-- Why a folder is not verified, as its parts tell it.
use Rattle.std.proofs.Common.{◌≡◌, ℕ, List, Option, Some, None, Result, Ok, Err, String, string_bytes, sym, ap, ◌∙◌, subst}
use Rattle.std.specs.declared.alloc.Global.{Global}
use Rattle.std.specs.Prelude.{IfErr, IsErrAnd}
use Rattle.reg_history.specs.Chain.{chained, says}
use Rattle.reg_changes.specs.declared.change.HistoryRecord.{HistoryRecord}
use Rattle.reg_history.specs.Noted.{some_begins}
use Rattle.reg_history.specs.History.{TellsWrong}
use Rattle.reg_changes.specs.Said.{Says, said_by}
use Rattle.std.specs.BTreeMap.{BTreeMap}
use Rattle.reg_changes.specs.declared.change.Details.{Details}
use Rattle.reg_changes.specs.declared.change.Subject.{Subject}
use Rattle.reg_verify.proofs.Nameless.{nameless_said}
use Rattle.reg_history.specs.declared.history.History.{History}
use Rattle.reg_changes.specs.declared.change.Fact.{Fact}
use Rattle.reg_history.specs.declared.history.Unreadable.{Unreadable}
use Rattle.reg_history.specs.declared.history.Unreadable.TheVariants as unreadable
use Rattle.reg_verify.specs.Flaws.{unread_as, unreadable_as}
use Rattle.reg_verify.specs.Strays.{HasStray}
use Rattle.reg_verify.proofs.StrayFiles.{stray_said}
use Rattle.reg_verify.specs.Verifying.{AreFactsOf, HasHistory, IsHistoryIn, IsNameless, IsUnlikeBy, IsUnnotedBy, TellsWhy}
use Rattle.reg_verify.specs.declared.flaw.FolderFlaw.TheVariants as flaw
use Rattle.reg_verify.specs.declared.flaw.Unverified.{Unverified}
use Rattle.reg_verify.specs.declared.flaw.Unverified.TheVariants as un
use Rattle.reg_verify.specs.declared.folder.UnreadFile.{UnreadFile}
use Rattle.reg_verify.specs.declared.folder.UnreadFile.TheVariants as unread
use Rattle.reg_verify.specs.declared.part.FolderPart.{FolderPart}
use Rattle.reg_verify.specs.declared.part.FolderPart.TheVariants as part

-- an error that is handed on tells what it told
pub handed_on : {T : Type 0} {E : Type 0} (Tells : E → Type 0) (r : Result T E) (e : E)
    → IsErrAnd r (λ y. y ≡ e) → Tells e → IfErr r Tells
handed_on Tells (Ok x) e h told = tt
handed_on {T} {E} Tells (Err y) e h told = subst Tells (sym h) told

module _ (Found : FolderPart → Option (List ℕ) → Type 0) (Names : List (List ℕ) → Type 0) where
  -- a file was not read
  pub tells_unread : (why : UnreadFile) → TellsWhy Found Names None (unread_as why)
  tells_unread unread.Memory = tt
  tells_unread unread.Read = tt
  tells_unread unread.Large = tt

  -- the bytes of the history are none
  pub tells_unreadable : (text : List ℕ) (why : Unreadable)
      → Found part.History (Some text) → TellsWrong text why
      → TellsWhy Found Names None (unreadable_as why)
  tells_unreadable text unreadable.Memory found told = tt
  tells_unreadable text unreadable.Header found told = (text, found, told)
  tells_unreadable text (unreadable.Wrong number) found told = (text, found, told)

  -- a registry has no name
  pub tells_nameless : (said : BTreeMap Subject Details) (records : List HistoryRecord) (why : Unverified)
      → HasHistory Found records → Says said (says records) → IsNameless (said_by said) why
      → TellsWhy Found Names None why
  tells_nameless said records un.Memory has same h = tt
  tells_nameless said records un.Read has same h = tt
  tells_nameless said records un.Large has same h = tt
  tells_nameless said records (un.Flawed flaw.Name) has same h =
      (records, has, nameless_said (said_by said) (says records) same h)
  tells_nameless said records (un.Flawed (flaw.Missing f)) has same h = absurd h
  tells_nameless said records (un.Flawed flaw.Header) has same h = absurd h
  tells_nameless said records (un.Flawed (flaw.Record n)) has same h = absurd h
  tells_nameless said records (un.Flawed flaw.Index) has same h = absurd h
  tells_nameless said records (un.Flawed (flaw.Misspelt f)) has same h = absurd h
  tells_nameless said records (un.Flawed flaw.Unnamed) has same h = absurd h
  tells_nameless said records (un.Flawed (flaw.Listing name)) has same h = absurd h
  tells_nameless said records (un.Flawed (flaw.Stray file)) has same h = absurd h
  tells_nameless said records (un.Flawed (flaw.Subject s)) has same h = absurd h
  tells_nameless said records (un.Flawed flaw.Short) has same h = absurd h
  tells_nameless said records (un.Flawed flaw.Digest) has same h = absurd h

  -- a subject is published otherwise
  pub tells_unlike : (records : List HistoryRecord) (facts : List Fact) (why : Unverified)
      → HasHistory Found records → AreFactsOf Found facts
      → IsUnlikeBy (says records) facts why → TellsWhy Found Names None why
  tells_unlike records facts un.Memory has are h = tt
  tells_unlike records facts un.Read has are h = tt
  tells_unlike records facts un.Large has are h = tt
  tells_unlike records facts (un.Flawed (flaw.Subject s)) has are h =
      (records, facts, has, are, h)
  tells_unlike records facts (un.Flawed (flaw.Missing f)) has are h = absurd h
  tells_unlike records facts (un.Flawed flaw.Header) has are h = absurd h
  tells_unlike records facts (un.Flawed (flaw.Record n)) has are h = absurd h
  tells_unlike records facts (un.Flawed flaw.Name) has are h = absurd h
  tells_unlike records facts (un.Flawed flaw.Index) has are h = absurd h
  tells_unlike records facts (un.Flawed (flaw.Misspelt f)) has are h = absurd h
  tells_unlike records facts (un.Flawed (flaw.Listing name)) has are h = absurd h
  tells_unlike records facts (un.Flawed (flaw.Stray file)) has are h = absurd h
  tells_unlike records facts (un.Flawed flaw.Unnamed) has are h = absurd h
  tells_unlike records facts (un.Flawed flaw.Short) has are h = absurd h
  tells_unlike records facts (un.Flawed flaw.Digest) has are h = absurd h

  -- a file is stray
  pub tells_stray : (h : History) (file : String Global) → IsHistoryIn Found h
      → HasStray Names (said_by h.said) (string_bytes file)
      → TellsWhy Found Names None (un.Flawed (flaw.Stray file))
  tells_stray h file is has = (
    is.0,
    is.1,
    stray_said Names (said_by h.said) (says is.0) is.2.said (string_bytes file) has,
  )

  -- no digest begins with the digits that were noted, or these are too few
  pub tells_unnoted : (records : List HistoryRecord) (digests : List (List ℕ)) (digits : List ℕ)
      (noted : Option (List ℕ)) (why : Unverified) → HasHistory Found records
      → digests ≡ (chained records).digests → noted ≡ Some digits
      → IsUnnotedBy digests digits why → TellsWhy Found Names noted why
  tells_unnoted records digests digits noted un.Memory has tied is h = tt
  tells_unnoted records digests digits noted un.Read has tied is h = tt
  tells_unnoted records digests digits noted un.Large has tied is h = tt
  tells_unnoted records digests digits noted (un.Flawed flaw.Short) has tied is h = (digits, is, h)
  tells_unnoted records digests digits noted (un.Flawed flaw.Digest) has tied is h =
      (records, digits, has, is, ap (some_begins digits) (sym tied) ∙ h)
  tells_unnoted records digests digits noted (un.Flawed (flaw.Missing f)) has tied is h = absurd h
  tells_unnoted records digests digits noted (un.Flawed flaw.Header) has tied is h = absurd h
  tells_unnoted records digests digits noted (un.Flawed (flaw.Record n)) has tied is h = absurd h
  tells_unnoted records digests digits noted (un.Flawed flaw.Unnamed) has tied is h = absurd h
  tells_unnoted records digests digits noted (un.Flawed flaw.Name) has tied is h = absurd h
  tells_unnoted records digests digits noted (un.Flawed flaw.Index) has tied is h = absurd h
  tells_unnoted records digests digits noted (un.Flawed (flaw.Misspelt f)) has tied is h = absurd h
  tells_unnoted records digests digits noted (un.Flawed (flaw.Listing name)) has tied is h =
      absurd h
  tells_unnoted records digests digits noted (un.Flawed (flaw.Stray file)) has tied is h = absurd h
  tells_unnoted records digests digits noted (un.Flawed (flaw.Subject s)) has tied is h = absurd h

  -- what is wrong where no digest was noted is wrong where one was
  pub tells_noted : (noted : Option (List ℕ)) (why : Unverified) → TellsWhy Found Names None why
      → TellsWhy Found Names noted why
  tells_noted noted un.Memory told = tt
  tells_noted noted un.Read told = tt
  tells_noted noted un.Large told = tt
  tells_noted noted (un.Flawed (flaw.Missing f)) told = told
  tells_noted noted (un.Flawed flaw.Header) told = told
  tells_noted noted (un.Flawed (flaw.Record n)) told = told
  tells_noted noted (un.Flawed flaw.Unnamed) told = told
  tells_noted noted (un.Flawed flaw.Name) told = told
  tells_noted noted (un.Flawed flaw.Index) told = told
  tells_noted noted (un.Flawed (flaw.Misspelt f)) told = told
  tells_noted noted (un.Flawed (flaw.Listing name)) told = told
  tells_noted noted (un.Flawed (flaw.Stray file)) told = told
  tells_noted noted (un.Flawed (flaw.Subject s)) told = told
  tells_noted noted (un.Flawed flaw.Short) told = let no = told.1 in absurd (cc)
  tells_noted noted (un.Flawed flaw.Digest) told = let no = told.3 in absurd (cc)
